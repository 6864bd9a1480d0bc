-- The laws of a set of pairs, from those of the entries of a map.
use Rattle.std.specs.Prelude.{◌≡◌}
use Rattle.std.proofs.Common.{refl, ap, ◌∙◌}
use Rattle.sw_tree.specs.Meaning.{Meaning, list, meanings, parts}
use Rattle.sw_tree.specs.Laws.Meaning.{meanings-parts}
use Rattle.sw_tree.specs.Meant.{IsPairOf}
use Rattle.sw_tree.specs.Mode.{at_key, at_value}
use Rattle.sw_tree.specs.PairRanks.{pair_order}
use Rattle.sw_tree.specs.Laws.PairRanks.{pair_ranks}
use Rattle.sw_tree.specs.Ranks.{Order, Ranks}
use Rattle.sw_tree.specs.Sorted.{IsSetOf, old_stays}
use Rattle.sw_tree.specs.Laws.Sorted.{old_joins, sorted-same}
use Rattle.sw_tree.specs.declared.mode.Mode.{Mode}
use Rattle.sw_check.specs.Blame.{IsSound}
use Rattle.sw_check.specs.Form.{Form, map, map_set}
use Rattle.sw_check.specs.Grade.{grade, worst}
use Rattle.sw_check.specs.declared.grade.Grade.TheVariants.{Exact}
use Rattle.sw_check.specs.Laws.SoundForms.{sound-map_set, map_set-map, exact_is}
use Rattle.sw_elem.specs.Equations.{Writes, Reads, Spots, Skips, LawfulReading}
use Rattle.sw_elem.specs.Statements.{Norm}
use Rattle.sw_elem.specs.Lawful.{Lawful, same_norm}
use Rattle.sw_core.specs.Entries.{entries_writes, entries_spot, entries_skips, entries_norm}
use Rattle.sw_core.specs.OrderedMap.{in_order}
use Rattle.sw_core.specs.Laws.Entries.{entries_lawful, entries_keeps}
use Rattle.sw_core.specs.Laws.OrderedMap.{ordered_lawful, ordered_keeps, IsFormOf}
use Rattle.sw_pairs.specs.PairSet.{pair_set_reads}

module _ {P Q : Meaning → Type 0} (R : Order) (o : Ranks P R) (S : Order) (p : Ranks Q S) where
  pub pair_set_lawful : {r q : Reads} {s z : Spots} (k : Skips) → LawfulReading P r s → (l : Skips) → LawfulReading Q q z →
      LawfulReading (IsSetOf (IsPairOf P Q) (pair_order R S)) (pair_set_reads R S r s k q z l) (entries_spot r s k q z l)
  pair_set_lawful k keys l values = ordered_lawful (pair_order R S) old_stays (pair_ranks P Q R S o p) (old_joins (IsPairOf P Q) (pair_order R S)) (entries_lawful k keys l values)

pair_set_form : (e f : Form) → IsFormOf (map e f) (map_set e f)
pair_set_form e f = record { sound = map_set-map e f; written = λ m k p. p; read = λ m k p. p }

module _ {P Q : Meaning → Type 0} (R : Order) (o : Ranks P R) (S : Order) (p : Ranks Q S) {w x : Writes} {r q : Reads} {s z : Spots} {k l : Skips} {e f : Form} {n i : Norm} {a b : Type 0} (keys : Lawful P w r s k e n a) (values : Lawful Q x q z l f i b) where
  -- pairs whose keys and values are exact are told apart as before
  same : (m : Mode) → IsSound (map_set e f) m → (v : Meaning) → IsSetOf (IsPairOf P Q) (pair_order R S) v → in_order (pair_order R S) old_stays (entries_norm n i m v) ≡ v
  same m h (list vs) c =
      let sound = sound-map_set e f m h in
      let exact : grade (map e f) m ≡ Exact = λ j. worst (exact_is (grade e (at_key m)) sound.1.0 j) (exact_is (grade f (at_value m)) sound.1.1 j) in
      ap (in_order (pair_order R S) old_stays) ((entries_keeps keys values).exact m exact (list vs) c.0)
      ∙ ap (λ us. list (meanings us)) (sorted-same (IsPairOf P Q) (pair_order R S) old_stays (pair_ranks P Q R S o p) (old_joins (IsPairOf P Q) (pair_order R S)) (parts vs) c.0 c.1)
      ∙ ap list (meanings-parts vs)
  same m h _ c = absurd c

  pub pair_set_keeps : Lawful (IsSetOf (IsPairOf P Q) (pair_order R S)) (entries_writes w x) (pair_set_reads R S r s k q z l) (entries_spot r s k q z l) (entries_skips r s k q z l) (map_set e f) same_norm (a × b)
  pair_set_keeps = ordered_keeps (entries_keeps keys values) (pair_order R S) old_stays (map_set e f) same_norm (pair_set_form e f) same (λ m g v h. refl) (λ m v h. h)
