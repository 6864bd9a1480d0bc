-- The laws of what is read as a list and put in order, from the list's; and those of a map in the order of its keys.
use Rattle.std.specs.Prelude.{◌≡◌, List, [], ◌∷◌, map as list_map, true, Result, Ok, Err}
use Rattle.std.proofs.Common.{refl, ap, subst, ◌∙◌}
use Rattle.std.specs.declared.cmp.Ordering.TheVariants.{Less}
use Rattle.sw_tree.specs.Meaning.{Meaning, list, meaning, no_meanings, meanings, parts}
use Rattle.sw_tree.specs.Laws.Meaning.{parts-meanings, meanings-parts}
use Rattle.sw_tree.specs.Meant.{IsListOf, IsPairOf, pair}
use Rattle.sw_tree.specs.Mode.{at_key, at_value}
use Rattle.sw_tree.specs.PairRanks.{first}
use Rattle.sw_tree.specs.Ranks.{Order, Ranks}
use Rattle.sw_tree.specs.Sorted.{Ascends, IsSetOf, IsMapOf, by_first, Join, sorted, value_replaced}
use Rattle.sw_tree.specs.Laws.Sorted.{Joins, by_first-ranks, value_joins, sorted-each, sorted-ascends, sorted-same}
use Rattle.sw_tree.specs.Steps.{bind, Each}
use Rattle.sw_tree.specs.Laws.Steps.{bind_ok}
use Rattle.sw_tree.specs.declared.mode.Kind.{Kind}
use Rattle.sw_tree.specs.declared.mode.Mode.{Mode}
use Rattle.sw_tree.specs.declared.fail.DeError.{DeError}
use Rattle.sw_check.specs.Blame.{IsSound}
use Rattle.sw_check.specs.Form.{Form, map, key_map}
use Rattle.sw_check.specs.Grade.{grade}
use Rattle.sw_check.specs.Kinds.{kinds_written, kinds_read}
use Rattle.sw_check.specs.Laws.SoundForms.{sound-key_map, key_map-map, exact_is}
use Rattle.sw_check.specs.declared.grade.Grade.TheVariants.{Exact}
use Rattle.sw_elem.specs.Equations.{Writes, Reads, Spots, Skips, LawfulReading}
use Rattle.sw_elem.specs.Statements.{Norm, IsExact, NormsWithin}
use Rattle.sw_elem.specs.Lawful.{Lawful}
use Rattle.sw_core.specs.Entries.{entries_writes, entries_spot, entries_skips, entries_norm, pair_norm}
use Rattle.sw_core.specs.OrderedMap.{in_order, ordered_reads, ordered_map_reads, ordered_map_norm}
use Rattle.sw_core.specs.Laws.Each.{each_kept, each_normed}
use Rattle.sw_core.specs.Laws.Entries.{entries_lawful, entries_keeps}

-- ---- what is read as a list, then put in order

mapped_err : (r : Result Meaning DeError) (f : Meaning → Meaning) (e : DeError) → bind r (λ v. Ok (f v)) ≡ Err e → r ≡ Err e
mapped_err (Ok v) f e p = absurd (cc)
mapped_err (Err d) f e p = p

mapped_ok : (r : Result Meaning DeError) (f : Meaning → Meaning) (v w : Meaning) → r ≡ Ok v → f v ≡ w → bind r (λ x. Ok (f x)) ≡ Ok w
mapped_ok r f v w p q = ap (λ s. bind s (λ x. Ok (f x))) p ∙ ap Ok q

list_of : (P : Meaning → Type 0) (R : Order) (v : Meaning) → IsSetOf P R v → IsListOf P v
list_of P R (list vs) h = h.0
list_of P R _ h = absurd h

module _ {P : Meaning → Type 0} (R : Order) (join : Join) (o : Ranks P R) (j : Joins P R join) where
  in_order-is : (v : Meaning) → IsListOf P v → IsSetOf P R (in_order R join v)
  in_order-is (list vs) h = rw (parts-meanings (sorted R join (parts vs))) (sorted-each P R join o j (parts vs) h, sorted-ascends P R join o j (parts vs) h)
  in_order-is _ h = absurd h

  pub ordered_lawful : {r : Reads} {s : Spots} → LawfulReading (IsListOf P) r s → LawfulReading (IsSetOf P R) (ordered_reads R join r) s
  ordered_lawful {r} {s} law = record {
    meanings = λ m t v n p.
        let b = bind_ok (r m t) (λ w. Ok (in_order R join w)) v p in
        let e : in_order R join b.0 ≡ v = cc b.2 in
        subst (IsSetOf P R) e (in_order-is b.0 (law.meanings m t b.0 n b.1));
    inside = λ m t e p. law.inside m t e (mapped_err (r m t) (in_order R join) e p);
  }

-- where what is put in order is sound, so is its list, and it has the list's kinds
pub record IsFormOf (e f : Form) : Type 0 where
  pub sound : (m : Mode) → IsSound f m → IsSound e m
  pub written : (m : Mode) (k : Kind) → kinds_written e m k ≡ true → kinds_written f m k ≡ true
  pub read : (m : Mode) (k : Kind) → kinds_read e m k ≡ true → kinds_read f m k ≡ true

module _ {P : Meaning → Type 0} {w : Writes} {r : Reads} {s : Spots} {k : Skips} {e : Form} {n : Norm} {a : Type 0} (whole : Lawful (IsListOf P) w r s k e n a) (R : Order) (join : Join) (f : Form) (l : Norm) where
  pub ordered_keeps : IsFormOf e f → ((m : Mode) → IsSound f m → (v : Meaning) → IsSetOf P R v → in_order R join (n m v) ≡ l m v) → ((m : Mode) → grade f m ≡ Exact → IsExact (IsSetOf P R) l m) →
      NormsWithin (IsSetOf P R) l → Lawful (IsSetOf P R) w (ordered_reads R join r) s k f l a
  ordered_keeps form same exact norms = record {
    images = λ m h v t i p. whole.images m (form.sound m h) v t (list_of P R v i) p;
    back = λ y m h v t i q p g. mapped_ok (r m i) (in_order R join) (n m v) (l m v) (whole.back y m (form.sound m h) v t i (list_of P R v q) p g) (same m h v q);
    never_key = λ m h v i p. whole.never_key m (form.sound m h) v (list_of P R v i) p;
    written_kinds = λ m v t i p. form.written m _ (whole.written_kinds m v t (list_of P R v i) p);
    read_kinds = λ m t v p. let b = bind_ok (r m t) (λ x. Ok (in_order R join x)) v p in form.read m _ (whole.read_kinds m t b.0 b.1);
    unmarked = whole.unmarked;
    exact = exact;
    spot_kinds = λ m t c p. whole.spot_kinds m t c (mapped_err (r m t) (in_order R join) _ p);
    note_kinds = whole.note_kinds;
    nodes = λ m v t i p. whole.nodes m v t (list_of P R v i) p;
    norms = norms;
  }

-- ---- maps

module _ {P Q : Meaning → Type 0} (R : Order) (o : Ranks P R) where
  pub ordered_map_lawful : {r q : Reads} {s z : Spots} (k : Skips) → LawfulReading P r s → (l : Skips) → LawfulReading Q q z →
      LawfulReading (IsMapOf P R Q) (ordered_map_reads R r s k q z l) (entries_spot r s k q z l)
  ordered_map_lawful k keys l values = ordered_lawful (by_first R) value_replaced (by_first-ranks P Q R o) (value_joins P Q R) (entries_lawful k keys l values)

module _ (P Q : Meaning → Type 0) (R : Order) (f : Meaning → Meaning) (within : (v : Meaning) → Q v → Q (f v)) where
  normed-is : (v : Meaning) → IsPairOf P Q v → IsPairOf P Q (pair_norm (λ x. x) f v)
  normed-is (list (meaning a (meaning b no_meanings))) h = (h.0, within b h.1)
  normed-is _ h = absurd h

  first_kept : (v : Meaning) → IsPairOf P Q v → first (pair_norm (λ x. x) f v) ≡ first v
  first_kept (list (meaning a (meaning b no_meanings))) h = refl
  first_kept _ h = absurd h

  below_normed : (x y : Meaning) (vs : List Meaning) → first y ≡ first x → Each (IsPairOf P Q) vs → Each (λ v. by_first R x v ≡ Less) vs → Each (λ v. by_first R y v ≡ Less) (list_map (pair_norm (λ x. x) f) vs)
  below_normed x y [] e h l = tt
  below_normed x y (v ∷ vs) e h l = ((λ i. R (e i) (first_kept v h.0 i)) ∙ l.0, below_normed x y vs e h.1 l.1)

  ascends_normed : (vs : List Meaning) → Each (IsPairOf P Q) vs → Ascends (by_first R) vs → Ascends (by_first R) (list_map (pair_norm (λ x. x) f) vs)
  ascends_normed [] h l = tt
  ascends_normed (v ∷ vs) h l = (below_normed v (pair_norm (λ x. x) f v) vs (first_kept v h.0) h.1 l.0, ascends_normed vs h.1 l.1)

  map_normed : (vs : List Meaning) → Each (IsPairOf P Q) vs × Ascends (by_first R) vs → Each (IsPairOf P Q) (list_map (pair_norm (λ x. x) f) vs) × Ascends (by_first R) (list_map (pair_norm (λ x. x) f) vs)
  map_normed vs h = (each_normed (IsPairOf P Q) (pair_norm (λ x. x) f) normed-is vs h.0, ascends_normed vs h.0 h.1)

module _ (P Q : Meaning → Type 0) (n g f : Meaning → Meaning) where
  pair_same : ((v : Meaning) → P v → n v ≡ g v) → (v : Meaning) → IsPairOf P Q v → pair_norm n f v ≡ pair_norm g f v
  pair_same keys (list (meaning a (meaning b no_meanings))) h = ap (λ x. pair x (f b)) (keys a h.0)
  pair_same keys _ h = absurd h

  pairs_same : ((v : Meaning) → P v → n v ≡ g v) → (vs : List Meaning) → Each (IsPairOf P Q) vs → list_map (pair_norm n f) vs ≡ list_map (pair_norm g f) vs
  pairs_same keys [] h = refl
  pairs_same keys (v ∷ vs) h = λ i. pair_same keys v h.0 i ∷ pairs_same keys vs h.1 i

module _ (P Q : Meaning → Type 0) (f : Meaning → Meaning) where
  pair_exact : ((v : Meaning) → Q v → f v ≡ v) → (v : Meaning) → IsPairOf P Q v → pair_norm (λ x. x) f v ≡ v
  pair_exact values (list (meaning a (meaning b no_meanings))) h = ap (λ x. pair a x) (values b h.1)
  pair_exact values _ h = absurd h

module _ (P Q : Meaning → Type 0) (R : Order) (i : Norm) where
  pub map_norms : NormsWithin Q i → NormsWithin (IsMapOf P R Q) (ordered_map_norm i)
  map_norms within m (list vs) h =
      let g = pair_norm (λ x. x) (i (at_value m)) in
      rw (parts-meanings (list_map g (parts vs))) (map_normed P Q R (i (at_value m)) (within (at_value m)) (parts vs) h)
  map_norms within m _ h = absurd h

  pub map_exact : (m : Mode) → IsExact Q i (at_value m) → IsExact (IsMapOf P R Q) (ordered_map_norm i) m
  map_exact m values (list vs) h =
      ap (λ us. list (meanings us)) (each_kept (pair_norm (λ x. x) (i (at_value m))) (IsPairOf P Q) (pair_exact P Q (i (at_value m)) values) (parts vs) h.0) ∙ ap list (meanings-parts vs)
  map_exact m values _ h = absurd h

module _ {P Q : Meaning → Type 0} (R : Order) (o : Ranks P R) (n d : Meaning → Meaning) where
  -- keys that are exact are told apart as before
  pub normed_in_order : ((v : Meaning) → P v → n v ≡ v) → ((v : Meaning) → Q v → Q (d v)) → (vs : List Meaning) → Each (IsPairOf P Q) vs × Ascends (by_first R) vs →
      sorted (by_first R) value_replaced (list_map (pair_norm n d) vs) ≡ list_map (pair_norm (λ x. x) d) vs
  normed_in_order keys within vs p =
      let t = map_normed P Q R d within vs p in
      ap (sorted (by_first R) value_replaced) (pairs_same P Q n (λ x. x) d keys vs p.0)
      ∙ sorted-same (IsPairOf P Q) (by_first R) value_replaced (by_first-ranks P Q R o) (value_joins P Q R) (list_map (pair_norm (λ x. x) d) vs) t.0 t.1

map_form : (e f : Form) → IsFormOf (map e f) (key_map e f)
map_form e f = record { sound = key_map-map e f; written = λ m k p. p; read = λ m k p. p }

module _ {P Q : Meaning → Type 0} (R : Order) (o : Ranks P R) {w x : Writes} {r q : Reads} {s z : Spots} {k l : Skips} {e f : Form} {n i : Norm} {a b : Type 0} (keys : Lawful P w r s k e n a) (values : Lawful Q x q z l f i b) where
  same : (m : Mode) → IsSound (key_map e f) m → (v : Meaning) → IsMapOf P R Q v → in_order (by_first R) value_replaced (entries_norm n i m v) ≡ ordered_map_norm i m v
  same m h (list vs) p =
      let c = sound-key_map e f m h in
      ap (λ ps. list (meanings (sorted (by_first R) value_replaced ps))) (parts-meanings (list_map (pair_norm (n (at_key m)) (i (at_value m))) (parts vs)))
      ∙ ap (λ ps. list (meanings ps)) (normed_in_order R o (n (at_key m)) (i (at_value m)) (keys.exact (at_key m) (exact_is (grade e (at_key m)) c.1)) (values.norms (at_value m)) (parts vs) p)
  same m h _ p = absurd p

  pub ordered_map_keeps : Lawful (IsMapOf P R Q) (entries_writes w x) (ordered_map_reads R r s k q z l) (entries_spot r s k q z l) (entries_skips r s k q z l) (key_map e f) (ordered_map_norm i) (a × b)
  ordered_map_keeps =
      ordered_keeps (entries_keeps keys values) (by_first R) value_replaced (key_map e f) (ordered_map_norm i) (map_form e f) same (λ m g. map_exact P Q R i m (values.exact (at_value m) g)) (map_norms P Q R i values.norms)
