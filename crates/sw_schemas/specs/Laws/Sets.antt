-- A set is written as an array of items that are pairwise different, since its items are read back as they are.
use Rattle.std.specs.Prelude.{◌≡◌, Bool, true, false, not, List, [], ◌∷◌, None, Result, Ok}
use Rattle.std.specs.declared.cmp.Ordering.{Ordering}
use Rattle.std.specs.declared.cmp.Ordering.TheVariants.{Less, Equal}
use Rattle.std.proofs.Common.{refl, ap, ◌∙◌, subst}
use Rattle.std.proofs.lemmas.Bool.{not_from_false, false_from_ne_true}
use Rattle.sw_tree.specs.Image.{value_image}
use Rattle.sw_tree.specs.Laws.Tree.{items-trees}
use Rattle.sw_tree.specs.Meaning.{Meaning, list, parts}
use Rattle.sw_tree.specs.Ranks.{Order, Ranks}
use Rattle.sw_tree.specs.Sorted.{Ascends, IsSetOf}
use Rattle.sw_tree.specs.Steps.{Each}
use Rattle.sw_tree.specs.Tree.{Tree, trees}
use Rattle.sw_tree.specs.Tree as node
use Rattle.sw_tree.specs.declared.fail.DeError.{DeError}
use Rattle.sw_check.specs.Form.{Form, set}
use Rattle.sw_check.specs.Grade.{grade}
use Rattle.sw_check.specs.Laws.SoundForms.{sound-set, exact_is}
use Rattle.sw_elem.specs.Equations.{Writes, Reads, Spots, Skips}
use Rattle.sw_elem.specs.Lawful.{Lawful}
use Rattle.sw_elem.specs.Statements.{Norm, ReadsBack, IsExact}
use Rattle.sw_core.specs.Vec.{list_writes}
use Rattle.sw_schema.specs.JsonSchema.{at_json, WritesValid}
use Rattle.sw_schema.specs.Laws.Leaves.{both_true}
use Rattle.sw_schema.specs.Laws.SameTree.{same_tree-is}
use Rattle.sw_schema.specs.SameTree.{same_tree}
use Rattle.sw_schema.specs.Schema.{Schema, array}
use Rattle.sw_schema.specs.Valid.{valid, all_pass, is_new, are_different}
use Rattle.sw_schemas.specs.FitsSchema.{FitsSchema}
use Rattle.sw_schemas.specs.Laws.Lists.{list_imaged, items_valid}
use Rattle.sw_schemas.specs.Laws.Written.{IsImageOf, AreImages}

same_value : (u v : Meaning) (r : Result Meaning DeError) → r ≡ Ok u → r ≡ Ok v → u ≡ v
same_value u v r p q = cc

never : (u : Ordering) → u ≡ Equal → u ≡ Less → ⊥
never u p q = cc

-- different values of exact parts have different images, since each image is read as its value
module _ (P : Meaning → Type 0) (w : Writes) (r : Reads) (n : Norm) (b : Bool) (back : ReadsBack P w r n (at_json b)) (exact : IsExact P n (at_json b)) (R : Order) (o : Ranks P R) where
  abbrev Is : Meaning → Tree → Type 0
  Is = IsImageOf (w (at_json b)) value_image

  read_as : (x : Meaning) (z : Tree) → P x → Is x z → r (at_json b) z ≡ Ok x
  read_as x z h k = back x k.written z h k.writes k.images ∙ ap (λ (u : Meaning). Ok u) (exact x h)

  images_tell : (x y : Meaning) (z : Tree) → P x → P y → Is x z → Is y z → x ≡ y
  images_tell x y z h k i j = same_value x y (r (at_json b) z) (read_as x z h i) (read_as y z k j)

  -- a value that is below another is not the other
  not_same : (x y : Meaning) → P x → R x y ≡ Less → x ≡ y → ⊥
  not_same x y h l e = never (R x x) (o.itself x h) (ap (R x) e ∙ l)

  stays_new : (x : Meaning) (z : Tree) (ys : List Meaning) (zs : List Tree) → P x → Is x z → Each P ys → Each (λ y. R x y ≡ Less) ys → AreImages (w (at_json b)) value_image ys zs → is_new z zs ≡ true
  stays_new x z [] [] h i k a j = refl
  stays_new x z [] (u ∷ us) h i k a j = absurd j
  stays_new x z (y ∷ ys) [] h i k a j = absurd j
  stays_new x z (y ∷ ys) (u ∷ us) h i k a j =
      let differ : same_tree z u ≡ false = false_from_ne_true (same_tree z u) (λ p. not_same x y h a.0 (images_tell x y u h k.0 (subst (Is x) (same_tree-is z u p) i) j.0)) in
      both_true (not (same_tree z u)) (is_new z us) (not_from_false (same_tree z u) differ) (stays_new x z ys us h i k.1 a.1 j.1)

  pub stay_different : (xs : List Meaning) (zs : List Tree) → Each P xs → Ascends R xs → AreImages (w (at_json b)) value_image xs zs → are_different zs ≡ true
  stay_different [] [] h a j = refl
  stay_different [] (z ∷ zs) h a j = absurd j
  stay_different (x ∷ xs) [] h a j = absurd j
  stay_different (x ∷ xs) (z ∷ zs) h a j = both_true (is_new z zs) (are_different zs) (stays_new x z xs zs h.0 j.0 h.1 a.0 j.1) (stay_different xs zs h.1 a.1 j.1)

unique_array : (s : Schema) (i : Tree) (is : List Tree) → i ≡ node.list (trees is) → all_pass (valid s) is ≡ true → are_different is ≡ true → valid (array s None None true) i ≡ true
unique_array s i is e h d = rw (e, items-trees is, h, d) refl

module _ (P : Meaning → Type 0) (w : Writes) (r : Reads) (n : Norm) (s : Schema) (b : Bool) (back : ReadsBack P w r n (at_json b)) (exact : IsExact P n (at_json b)) (R : Order) (o : Ranks P R) (part : WritesValid P w s b) where
  pub set_written : WritesValid (IsSetOf P R) (list_writes w) (array s None None true) b
  set_written (list vs) t i h p e =
      let c = list_imaged w b vs t i p e in
      unique_array s i c.images c.is (items_valid P w s b part vs c.images h.0 c.each) (stay_different P w r n b back exact R o (parts vs) c.images h.0 h.1 c.each)
  set_written _ t i h p e = absurd h

pub set_fits : {P : Meaning → Type 0} (R : Order) → Ranks P R → {w : Writes} {r : Reads} {z : Spots} {k : Skips} {x : Form} {n : Norm} {a : Type 0} {s : Schema} → Lawful P w r z k x n a → FitsSchema P w x s a →
    FitsSchema (IsSetOf P R) (list_writes w) (set x) (array s None None true) a
set_fits {P = P} R o {w = w} {r = r} {x = x} {n = n} {s = s} law part =
    record {
      fits = λ y b c.
          let sound = sound-set x (at_json b) c in
          set_written P w r n s b (law.back y (at_json b) sound.2) (law.exact (at_json b) (exact_is (grade x (at_json b)) sound.1)) R o (part.fits y b sound.2);
    }
