-- What leaves write is valid for their schemas.
use Rattle.std.specs.Prelude.{◌≡◌, ℕ, ◌<◌, ◌^◌, ◌-◌, ℤ, pos, negsuc, Bool, true, false, List, Option, Some, None, Result, Ok, FitsSigned, ◌&&◌}
use Rattle.std.proofs.Common.{refl, ap, sym, ◌∙◌, arith}
use mir.Val.{hbits}
use Rattle.std.specs.Int.{Width}
use Rattle.std.proofs.lemmas.Bool.{le-leb}
use Rattle.sw_tree.specs.Image.{value_image}
use Rattle.sw_tree.specs.Meaning.{Meaning, number, text, truth}
use Rattle.sw_tree.specs.Meant.{IsBelow, IsSigned, IsText, IsTruth}
use Rattle.sw_tree.specs.Tree.{Tree}
use Rattle.sw_tree.specs.Tree as node
use Rattle.sw_tree.specs.declared.fail.SerError.{SerError}
use Rattle.sw_elem.specs.Equations.{Writes}
use Rattle.sw_elem.specs.Numbers.{number_writes}
use Rattle.sw_elem.specs.Strings.{texted_writes, nothing_writes}
use Rattle.sw_elem.specs.Truths.{truth_writes}
use Rattle.sw_schema.specs.Elements.{text_definition}
use Rattle.sw_schema.specs.JsonSchema.{at_json, WritesValid, WritesSchema}
use Rattle.sw_schema.specs.Schema.{Schema, any, null, integer, boolean}
use Rattle.sw_schema.specs.Valid.{valid, at_least, at_most}

pub both_true : (a b : Bool) → a ≡ true → b ≡ true → (a && b) ≡ true
both_true a b p q = rw (p, q) refl

-- ---- what is written as a tree that is its own image

written_is : (u t : Tree) (r : Result Tree SerError) → r ≡ Ok u → r ≡ Ok t → u ≡ t
written_is u t r p q = cc

imaged_is : (u t i : Tree) (o : Option Tree) → o ≡ Some u → o ≡ Some i → u ≡ i
imaged_is u t i o p q = cc

-- of `u`, which is its own image
pub own_image : (s : Schema) (u t i : Tree) (r : Result Tree SerError) → value_image u ≡ Some u → valid s u ≡ true → r ≡ Ok u → r ≡ Ok t → value_image t ≡ Some i → valid s i ≡ true
own_image s u t i r own h p q e = ap (valid s) (sym (imaged_is u t i (value_image u) own (ap value_image (written_is u t r p q) ∙ e))) ∙ h

-- ---- whole numbers

-- from minus the limit to below it
abbrev IsWithin : ℕ → ℤ → Type 0
IsWithin limit (pos n) = n < limit
IsWithin limit (negsuc n) = n < limit

-- the bounds of unsigned numbers below the limit, and of signed ones within it
abbrev pub unsigned_schema : ℕ → Schema
unsigned_schema limit = integer (Some (pos 0)) (Some (pos (limit - 1)))

abbrev pub signed_schema : ℕ → Schema
signed_schema limit = integer (Some (negsuc (limit - 1))) (Some (pos (limit - 1)))

pub unsigned_valid : (limit n : ℕ) → n < limit → valid (unsigned_schema limit) (node.int (pos n)) ≡ true
unsigned_valid limit n h = both_true (at_least (Some (pos 0)) (pos n)) (at_most (Some (pos (limit - 1))) (pos n)) (le-leb 0 n (omega arith)) (le-leb n (limit - 1) (omega arith))

unsigned_fits : (limit : ℕ) (b : Bool) → WritesValid (IsBelow limit) number_writes (unsigned_schema limit) b
unsigned_fits limit b (number (pos n)) t i h p e = own_image (unsigned_schema limit) (node.int (pos n)) t i (number_writes (at_json b) (number (pos n))) refl (unsigned_valid limit n h) refl p e
unsigned_fits limit b _ t i h p e = absurd h

pub unsigned_writes_schema : (limit : ℕ) → WritesSchema (IsBelow limit) number_writes (unsigned_schema limit)
unsigned_writes_schema limit = record { fits = unsigned_fits limit }

signed_valid : (limit : ℕ) (z : ℤ) → IsWithin limit z → valid (signed_schema limit) (node.int z) ≡ true
signed_valid limit (pos n) h = both_true (at_least (Some (negsuc (limit - 1))) (pos n)) (at_most (Some (pos (limit - 1))) (pos n)) refl (le-leb n (limit - 1) (omega (arith, h)))
signed_valid limit (negsuc n) h = both_true (at_least (Some (negsuc (limit - 1))) (negsuc n)) (at_most (Some (pos (limit - 1))) (negsuc n)) (le-leb n (limit - 1) (omega (arith, h))) refl

signed_within : (w : Width) (z : ℤ) → FitsSigned w z → IsWithin (2 ^ hbits w) z
signed_within w (pos n) h = h.sfits
signed_within w (negsuc n) h = h.sfits

signed_fits : (w : Width) (b : Bool) → WritesValid (IsSigned w) number_writes (signed_schema (2 ^ hbits w)) b
signed_fits w b (number z) t i h p e = own_image (signed_schema (2 ^ hbits w)) (node.int z) t i (number_writes (at_json b) (number z)) refl (signed_valid (2 ^ hbits w) z (signed_within w z h)) refl p e
signed_fits w b _ t i h p e = absurd h

pub signed_writes_schema : (w : Width) → WritesSchema (IsSigned w) number_writes (signed_schema (2 ^ hbits w))
signed_writes_schema w = record { fits = signed_fits w }

-- ---- texts, truth values, nothing, and any tree

pub texted_writes_schema : (P : Meaning → Type 0) (shows : Meaning → List ℕ) → WritesSchema P (texted_writes shows) text_definition.schema
texted_writes_schema P shows = record { fits = λ b v t i h p e. own_image text_definition.schema (node.text (shows v)) t i (texted_writes shows (at_json b) v) refl refl refl p e }

truth_fits : (b : Bool) → WritesValid IsTruth truth_writes boolean b
truth_fits b (truth v) t i h p e = own_image boolean (node.truth v) t i (truth_writes (at_json b) (truth v)) refl refl refl p e
truth_fits b _ t i h p e = absurd h

pub truth_writes_schema : WritesSchema IsTruth truth_writes boolean
truth_writes_schema = record { fits = truth_fits }

pub nothing_writes_schema : (P : Meaning → Type 0) → WritesSchema P nothing_writes null
nothing_writes_schema P = record { fits = λ b v t i h p e. own_image null node.null t i (nothing_writes (at_json b) v) refl refl refl p e }

pub any_writes_schema : (P : Meaning → Type 0) (w : Writes) → WritesSchema P w any
any_writes_schema P w = record { fits = λ b v t i h p e. refl }
