-- The laws of a set, from those of the list of its items.
use Rattle.std.specs.Prelude.{◌≡◌}
use Rattle.std.proofs.Common.{refl, ap, ◌∙◌}
use Rattle.sw_tree.specs.Meaning.{Meaning, list, meanings, parts}
use Rattle.sw_tree.specs.Laws.Meaning.{meanings-parts}
use Rattle.sw_tree.specs.Mode.{at_value}
use Rattle.sw_tree.specs.Ranks.{Order, Ranks}
use Rattle.sw_tree.specs.Sorted.{IsSetOf, sorted, old_stays}
use Rattle.sw_tree.specs.Laws.Sorted.{old_joins, sorted-same}
use Rattle.sw_tree.specs.declared.mode.Mode.{Mode}
use Rattle.sw_check.specs.Blame.{IsSound}
use Rattle.sw_check.specs.Form.{Form, vec, set}
use Rattle.sw_check.specs.Grade.{grade}
use Rattle.sw_check.specs.Laws.SoundForms.{sound-set, set-vec, exact_is}
use Rattle.sw_elem.specs.Equations.{Writes, Reads, Spots, Skips, LawfulReading}
use Rattle.sw_elem.specs.Statements.{Norm}
use Rattle.sw_elem.specs.Lawful.{Lawful, same_norm}
use Rattle.sw_core.specs.OrderedMap.{in_order}
use Rattle.sw_core.specs.Set.{set_reads}
use Rattle.sw_core.specs.Vec.{list_writes, list_spot, list_skips, list_norm}
use Rattle.sw_core.specs.Laws.Each.{each_kept}
use Rattle.sw_core.specs.Laws.OrderedMap.{ordered_lawful, ordered_keeps, IsFormOf}
use Rattle.sw_core.specs.Laws.Vec.{list_lawful, list_keeps}

module _ {P : Meaning → Type 0} (R : Order) (o : Ranks P R) where
  pub set_lawful : {r : Reads} {s : Spots} (k : Skips) → LawfulReading P r s → LawfulReading (IsSetOf P R) (set_reads R r s k) (list_spot r s k)
  set_lawful k items = ordered_lawful R old_stays o (old_joins P R) (list_lawful k items)

set_form : (e : Form) → IsFormOf (vec e) (set e)
set_form e = record { sound = set-vec e; written = λ m k p. p; read = λ m k p. p }

module _ {P : Meaning → Type 0} (R : Order) (o : Ranks P R) {w : Writes} {r : Reads} {s : Spots} {k : Skips} {e : Form} {n : Norm} {a : Type 0} (items : Lawful P w r s k e n a) where
  -- items that are exact are told apart as before
  same : (m : Mode) → IsSound (set e) m → (v : Meaning) → IsSetOf P R v → in_order R old_stays (list_norm n m v) ≡ v
  same m h (list vs) p =
      let exact = items.exact (at_value m) (exact_is (grade e (at_value m)) (sound-set e m h).1) in
      ap (λ us. list (meanings (sorted R old_stays (parts (meanings us))))) (each_kept (n (at_value m)) P exact (parts vs) p.0)
      ∙ ap (λ u. list (meanings (sorted R old_stays (parts u)))) (meanings-parts vs)
      ∙ ap (λ us. list (meanings us)) (sorted-same P R old_stays o (old_joins P R) (parts vs) p.0 p.1)
      ∙ ap list (meanings-parts vs)
  same m h _ p = absurd p

  pub set_keeps : Lawful (IsSetOf P R) (list_writes w) (set_reads R r s k) (list_spot r s k) (list_skips r s k) (set e) same_norm a
  set_keeps = ordered_keeps (list_keeps items) R old_stays (set e) same_norm (set_form e) same (λ m g v h. refl) (λ m v h. h)
