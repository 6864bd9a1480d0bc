-- One part by itself or a list of parts: any of the part's schema and an array of it.
use Rattle.std.specs.Prelude.{◌≡◌, Bool, true, false, None}
use Rattle.std.proofs.lemmas.Bool.{or_left, or_right}
use Rattle.sw_tree.specs.Meaning.{Meaning, list, no_meanings, meaning}
use Rattle.sw_tree.specs.Meant.{IsListOf}
use Rattle.sw_tree.specs.Ranks.{Order, Ranks}
use Rattle.sw_tree.specs.Sorted.{IsSetOf}
use Rattle.sw_tree.specs.Tree.{Tree}
use Rattle.sw_check.specs.Form.{Form, one_or_many, one_or_many_set}
use Rattle.sw_check.specs.Grade.{grade}
use Rattle.sw_check.specs.Laws.SoundForms.{sound-one_or_many, sound-one_or_many_set, exact_is}
use Rattle.sw_elem.specs.Equations.{Writes, Reads, Spots, Skips}
use Rattle.sw_elem.specs.Lawful.{Lawful}
use Rattle.sw_elem.specs.Statements.{Norm}
use Rattle.sw_core.specs.Vec.{list_writes}
use Rattle.sw_policy.specs.Definitions.{one_or_many_schema}
use Rattle.sw_policy.specs.OneOrMany.{one_or_many_writes}
use Rattle.sw_policy.specs.Laws.OneOrMany.{one_or_many_keeps}
use Rattle.sw_policy.specs.Laws.PickSchema.{from_marked}
use Rattle.sw_schema.specs.JsonSchema.{at_json, WritesValid}
use Rattle.sw_schema.specs.Schema.{Schema, array}
use Rattle.sw_schema.specs.Valid.{valid}
use Rattle.sw_schemas.specs.FitsSchema.{FitsSchema}
use Rattle.sw_schemas.specs.Laws.Lists.{list_written}
use Rattle.sw_schemas.specs.Laws.Sets.{set_written}

many_valid : (alone unique : Bool) (s : Schema) (i : Tree) → valid (array s None None unique) i ≡ true → valid (one_or_many_schema alone unique s) i ≡ true
many_valid true unique s i h = or_right (valid s i) _ (or_left (valid (array s None None unique) i) false h)
many_valid false unique s i h = or_right (valid s i) _ (or_left (valid (array s None None unique) i) false h)

-- of lists of which the parts are written as valid, and the lists too
module _ (P Q : Meaning → Type 0) (w : Writes) (s : Schema) (b unique : Bool) (part : WritesValid P w s b) (listed : WritesValid Q (list_writes w) (array s None None unique) b) (only : (x : Meaning) → Q (list (meaning x no_meanings)) → P x) where
  many : (alone : Bool) → WritesValid Q (list_writes w) (one_or_many_schema alone unique s) b
  many alone v t i h p e = many_valid alone unique s i (listed v t i h p e)

  one_or_many_written : (alone : Bool) → WritesValid Q (one_or_many_writes alone w) (one_or_many_schema alone unique s) b
  one_or_many_written false v t i h p e = many false v t i h p e
  one_or_many_written true (list (meaning x no_meanings)) t i h p e = or_left (valid s i) _ (part x t i (only x h) p e)
  one_or_many_written true (list no_meanings) t i h p e = many true (list no_meanings) t i h p e
  one_or_many_written true (list (meaning x (meaning y vs))) t i h p e = many true (list (meaning x (meaning y vs))) t i h p e
  one_or_many_written true v t i h p e = many true v t i h p e

module _ {P : Meaning → Type 0} {w : Writes} {r : Reads} {z : Spots} {k : Skips} {x : Form} {n : Norm} {a : Type 0} {s : Schema} where
  pub one_or_many_fits : (alone : Bool) → Lawful P w r z k x n a → FitsSchema P w x s a → FitsSchema (IsListOf P) (one_or_many_writes alone w) (one_or_many x) (one_or_many_schema alone false s) a
  one_or_many_fits alone law part =
      record {
        fits = λ y b c.
            let items = part.fits y true ((sound-one_or_many x (at_json b) c).2) in
            from_marked (IsListOf P) (one_or_many_writes alone w) (one_or_many_schema alone false s) b ((one_or_many_keeps law alone).unmarked)
            (one_or_many_written P (IsListOf P) w s true false items (list_written P w s true items) (λ v h. h.0) alone);
      }

  -- the items of a set are exact, so no two of them are written the same
  pub one_or_many_set_fits : (R : Order) → Ranks P R → (alone : Bool) → Lawful P w r z k x n a → FitsSchema P w x s a →
      FitsSchema (IsSetOf P R) (one_or_many_writes alone w) (one_or_many_set x) (one_or_many_schema alone true s) a
  one_or_many_set_fits R o alone law part =
      record {
        fits = λ y b c.
            let sound = sound-one_or_many_set x (at_json b) c in
            let items = part.fits y true sound.3 in
            let set = set_written P w r n s true (law.back y (at_json true) sound.3) (law.exact (at_json true) (exact_is (grade x (at_json true)) sound.2)) R o items in
            from_marked (IsSetOf P R) (one_or_many_writes alone w) (one_or_many_schema alone true s) b ((one_or_many_keeps law alone).unmarked)
            (one_or_many_written P (IsSetOf P R) w s true true items set (λ v h. h.0.0) alone);
      }
