-- The laws of a set as one item or many, from those of one or many items.
use Rattle.std.specs.Prelude.{◌≡◌, Bool}
use Rattle.std.proofs.Common.{refl, ap, ◌∙◌}
use Rattle.sw_tree.specs.Meaning.{Meaning, list, meanings, parts}
use Rattle.sw_tree.specs.Laws.Meaning.{meanings-parts}
use Rattle.sw_tree.specs.Meant.{IsListOf}
use Rattle.sw_tree.specs.Mode.{at_value, marked}
use Rattle.sw_tree.specs.Ranks.{Order, Ranks}
use Rattle.sw_tree.specs.Sorted.{IsSetOf, old_stays}
use Rattle.sw_tree.specs.Laws.Sorted.{old_joins, sorted-same}
use Rattle.sw_tree.specs.declared.mode.Mode.{Mode}
use Rattle.sw_check.specs.Blame.{IsSound}
use Rattle.sw_check.specs.Form.{Form, one_or_many, one_or_many_set}
use Rattle.sw_check.specs.Grade.{grade}
use Rattle.sw_check.specs.Laws.SoundForms.{sound-one_or_many_set, one_or_many_set-list, exact_is}
use Rattle.sw_elem.specs.Equations.{Writes, Reads, Spots, Skips, LawfulReading, own_spot}
use Rattle.sw_elem.specs.Statements.{Norm}
use Rattle.sw_elem.specs.Lawful.{Lawful, same_norm}
use Rattle.sw_core.specs.OrderedMap.{in_order}
use Rattle.sw_core.specs.Laws.OrderedMap.{ordered_lawful, ordered_keeps, IsFormOf}
use Rattle.sw_policy.specs.OneOrMany.{one_or_many_writes, one_or_many_reads, one_or_many_skips, one_or_many_norm}
use Rattle.sw_policy.specs.OneOrManySet.{one_or_many_set_reads}
use Rattle.sw_policy.specs.Laws.OneOrMany.{one_or_many_lawful, one_or_many_keeps}

module _ {P : Meaning → Type 0} (R : Order) (o : Ranks P R) where
  pub one_or_many_set_lawful : {r : Reads} {s : Spots} (k : Skips) → LawfulReading P r s → LawfulReading (IsSetOf P R) (one_or_many_set_reads R r s k) own_spot
  one_or_many_set_lawful k items = ordered_lawful R old_stays o (old_joins P R) (one_or_many_lawful k items)

set_form : (e : Form) → IsFormOf (one_or_many e) (one_or_many_set e)
set_form e = record { sound = one_or_many_set-list e; written = λ m k p. p; read = λ m k p. p }

module _ {P : Meaning → Type 0} (R : Order) (o : Ranks P R) {w : Writes} {r : Reads} {s : Spots} {k : Skips} {e : Form} {n : Norm} {a : Type 0} (items : Lawful P w r s k e n a) (b : Bool) where
  whole : Lawful (IsListOf P) (one_or_many_writes b w) (one_or_many_reads r s k) own_spot (one_or_many_skips r s k) (one_or_many e) (one_or_many_norm n) a
  whole = one_or_many_keeps items b

  -- items that are exact are told apart as before
  same : (m : Mode) → IsSound (one_or_many_set e) m → (v : Meaning) → IsSetOf P R v → in_order R old_stays (one_or_many_norm n m v) ≡ v
  same m h (list vs) p =
      let exact = whole.exact m (exact_is (grade e (marked (at_value m))) (sound-one_or_many_set e m h).2) in
      ap (in_order R old_stays) (exact (list vs) p.0)
      ∙ ap (λ us. list (meanings us)) (sorted-same P R old_stays o (old_joins P R) (parts vs) p.0 p.1)
      ∙ ap list (meanings-parts vs)
  same m h _ p = absurd p

  pub one_or_many_set_keeps : Lawful (IsSetOf P R) (one_or_many_writes b w) (one_or_many_set_reads R r s k) own_spot (one_or_many_skips r s k) (one_or_many_set e) same_norm a
  one_or_many_set_keeps = ordered_keeps whole R old_stays (one_or_many_set e) same_norm (set_form e) same (λ m g v h. refl) (λ m v h. h)
