-- An array is written as a list of so many.
use Rattle.std.specs.Prelude.{◌≡◌, ℕ, Bool, true, false, List, length, Some}
use Rattle.std.proofs.Common.{refl, ◌∙◌, arith}
use Rattle.std.proofs.lemmas.Bool.{le-leb}
use Rattle.sw_tree.specs.Image.{value_image}
use Rattle.sw_tree.specs.Meaning.{Meaning, list, parts}
use Rattle.sw_tree.specs.Meant.{IsArrayOf}
use Rattle.sw_tree.specs.Tree.{Tree, trees}
use Rattle.sw_tree.specs.Laws.Tree.{items-trees}
use Rattle.sw_tree.specs.Tree as node
use Rattle.sw_check.specs.Form.{Form, vec}
use Rattle.sw_check.specs.Laws.SoundForms.{sound-vec}
use Rattle.sw_elem.specs.Equations.{Writes}
use Rattle.sw_core.specs.Vec.{list_writes}
use Rattle.sw_schema.specs.JsonSchema.{at_json, WritesValid}
use Rattle.sw_schema.specs.Schema.{Schema, array}
use Rattle.sw_schema.specs.Valid.{valid, all_pass}
use Rattle.sw_schemas.specs.FitsSchema.{FitsSchema}
use Rattle.sw_schemas.specs.Laws.Lists.{list_imaged, items_valid}
use Rattle.sw_schemas.specs.Laws.Written.{as_many}

counted_array : (s : Schema) (n : ℕ) (i : Tree) (is : List Tree) → i ≡ node.list (trees is) → all_pass (valid s) is ≡ true → length is ≡ n → valid (array s (Some n) (Some n) false) i ≡ true
counted_array s n i is e h c = rw (e, items-trees is, h, c, le-leb n n (omega arith)) refl

module _ (P : Meaning → Type 0) (w : Writes) (s : Schema) (n : ℕ) (b : Bool) (part : WritesValid P w s b) where
  pub array_written : WritesValid (IsArrayOf P n) (list_writes w) (array s (Some n) (Some n) false) b
  array_written (list vs) t i h p e =
      let c = list_imaged w b vs t i p e in
      counted_array s n i c.images c.is (items_valid P w s b part vs c.images h.0 c.each) (as_many (w (at_json b)) value_image (parts vs) c.images c.each ∙ h.1)
  array_written _ t i h p e = absurd h

pub array_fits : (n : ℕ) {P : Meaning → Type 0} {w : Writes} {x : Form} {s : Schema} {a : Type 0} → FitsSchema P w x s a → FitsSchema (IsArrayOf P n) (list_writes w) (vec x) (array s (Some n) (Some n) false) a
array_fits n {P = P} {w = w} {x = x} {s = s} part = record { fits = λ y b c. array_written P w s n b (part.fits y b ((sound-vec x (at_json b) c).1)) }
