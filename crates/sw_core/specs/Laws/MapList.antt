-- The laws of a map as the list of its entries, from those of a list of tuples of two.
use Rattle.std.specs.Prelude.{◌≡◌, List, [], ◌∷◌, map as list_map}
use Rattle.std.proofs.Common.{refl, ap, ◌∙◌}
use Rattle.sw_tree.specs.Laws.Meaning.{parts-meanings}
use Rattle.sw_tree.specs.Laws.Sorted.{by_first-ranks, value_joins}
use Rattle.sw_tree.specs.Meaning.{Meaning, list, meaning, no_meanings, meanings, parts}
use Rattle.sw_tree.specs.Meant.{IsPairOf}
use Rattle.sw_tree.specs.Mode.{at_value}
use Rattle.sw_tree.specs.Ranks.{Order, Ranks}
use Rattle.sw_tree.specs.Sorted.{IsMapOf, by_first, sorted, value_replaced}
use Rattle.sw_tree.specs.Steps.{Each}
use Rattle.sw_tree.specs.declared.mode.Mode.{Mode}
use Rattle.sw_check.specs.Blame.{IsSound}
use Rattle.sw_check.specs.Form.{Form, no_forms, form, vec, tuple, pairs}
use Rattle.sw_check.specs.Grade.{grade}
use Rattle.sw_check.specs.Laws.SoundForms.{sound-pairs, pairs-vec, exact_is}
use Rattle.sw_elem.specs.Equations.{Writes, Reads, Spots, Skips, LawfulReading}
use Rattle.sw_elem.specs.Lawful.{Lawful}
use Rattle.sw_elem.specs.Statements.{Norm}
use Rattle.sw_core.specs.Entries.{pair_norm}
use Rattle.sw_core.specs.MapList.{map_list_writes, key_and_value, map_list_reads, map_list_spot, map_list_skips}
use Rattle.sw_core.specs.OrderedMap.{in_order, ordered_map_norm}
use Rattle.sw_core.specs.Tuple.{tuple_skips, tuple_norm, tuple_assumes}
use Rattle.sw_core.specs.Vec.{list_norm}
use Rattle.sw_core.specs.Laws.OrderedMap.{ordered_lawful, IsFormOf, ordered_keeps, map_norms, map_exact, normed_in_order}
use Rattle.sw_core.specs.Laws.Parts.{read_by, kept}
use Rattle.sw_core.specs.Laws.Tuple.{pair_lawful, pair_keeps}
use Rattle.sw_core.specs.Laws.Vec.{list_lawful, list_keeps}

module _ {P Q : Meaning → Type 0} (R : Order) (o : Ranks P R) where
  pub map_list_lawful : {r q : Reads} {s z : Spots} (k : Skips) → LawfulReading P r s → (l : Skips) → LawfulReading Q q z →
      LawfulReading (IsMapOf P R Q) (map_list_reads R r s k q z l) (map_list_spot r s k q z l)
  map_list_lawful {r} {q} {s} {z} k keys l values =
      ordered_lawful (by_first R) value_replaced (by_first-ranks P Q R o) (value_joins P Q R) (list_lawful (tuple_skips (key_and_value r s k q z l)) (pair_lawful (read_by k keys) (read_by l values)))

list_form : (e f : Form) → IsFormOf (vec (tuple (form e (form f no_forms)))) (pairs e f)
list_form e f = record { sound = pairs-vec e f; written = λ m k p. p; read = λ m k p. p }

-- the norm of a tuple of two is that of the pair
tuple_same : (P Q : Meaning → Type 0) (n l : Norm) (m : Mode) (v : Meaning) → IsPairOf P Q v → tuple_norm (n ∷ l ∷ []) m v ≡ pair_norm (n (at_value m)) (l (at_value m)) v
tuple_same P Q n l m (list (meaning a (meaning b no_meanings))) h = refl
tuple_same P Q n l m _ h = absurd h

tuples_same : (P Q : Meaning → Type 0) (n l : Norm) (m : Mode) (vs : List Meaning) → Each (IsPairOf P Q) vs → list_map (tuple_norm (n ∷ l ∷ []) m) vs ≡ list_map (pair_norm (n (at_value m)) (l (at_value m))) vs
tuples_same P Q n l m [] h = refl
tuples_same P Q n l m (v ∷ vs) h = λ i. tuple_same P Q n l m v h.0 i ∷ tuples_same P Q n l m vs h.1 i

module _ {P Q : Meaning → Type 0} (R : Order) (o : Ranks P R) {w x : Writes} {r q : Reads} {s z : Spots} {k l : Skips} {e f : Form} {n i : Norm} {a b : Type 0} (keys : Lawful P w r s k e n a) (values : Lawful Q x q z l f i b) where
  same : (m : Mode) → IsSound (pairs e f) m → (v : Meaning) → IsMapOf P R Q v → in_order (by_first R) value_replaced (list_norm (tuple_norm (n ∷ i ∷ [])) m v) ≡ ordered_map_norm i m v
  same m h (list vs) p =
      let c = sound-pairs e f m h in
      ap (λ ps. list (meanings (sorted (by_first R) value_replaced ps))) (parts-meanings (list_map (tuple_norm (n ∷ i ∷ []) (at_value m)) (parts vs)) ∙ tuples_same P Q n i (at_value m) (parts vs) p.0)
      ∙ ap (λ ps. list (meanings ps)) (normed_in_order R o (n (at_value m)) (i (at_value m)) (keys.exact (at_value m) (exact_is (grade e (at_value m)) c.1)) (values.norms (at_value m)) (parts vs) p)
  same m h _ p = absurd p

  pub map_list_keeps : Lawful (IsMapOf P R Q) (map_list_writes w x) (map_list_reads R r s k q z l) (map_list_spot r s k q z l) (map_list_skips r s k q z l) (pairs e f) (ordered_map_norm i) (tuple_assumes (a ∷ b ∷ []))
  map_list_keeps =
      ordered_keeps (list_keeps (pair_keeps (kept keys) (kept values))) (by_first R) value_replaced (pairs e f) (ordered_map_norm i) (list_form e f) same (λ m g. map_exact P Q R i m (values.exact (at_value m) g)) (map_norms P Q R i values.norms)
