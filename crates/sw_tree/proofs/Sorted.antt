-- What sets and maps in hand mean ascends.
use Rattle.std.specs.Prelude.{List, map, []}
use Rattle.std.specs.List.Sorted.{IsStrictlySortedBy}
use Rattle.std.specs.Map.{keys_of}
use Rattle.std.specs.declared.cmp.Ordering.{Ordering}
use Rattle.std.proofs.Common.{sym, subst}
use Rattle.sw_tree.specs.Meaning.{Meaning}
use Rattle.sw_tree.specs.Steps.{Each}
use Rattle.sw_tree.specs.Meant.{list_meaning, IsPairOf, pair_meaning}
use Rattle.sw_tree.specs.Ranks.{Order, Ranks, IsOrderOf}
use Rattle.sw_tree.specs.Sorted.{Ascends, IsSetOf, by_first, IsMapOf, old_stays, value_replaced, sort_onto, sort_keys_onto}
use Rattle.sw_tree.specs.Laws.Meaning.{parts-meanings}
use Rattle.sw_tree.specs.Laws.Sorted.{by_first-ranks, old_joins, value_joins, sorted-each, sorted-ascends, sort_keys_onto-put_all, keys_ascend, sort_onto-put_all, entries_ascend}

-- ---- sets and maps in hand
-- a list of ascending meanings means a set
pub set_is : {T : Type 0} (f : T → Meaning) (P : Meaning → Type 0) (R : Order) (xs : List T) → Each P (map f xs) → Ascends R (map f xs) → IsSetOf P R (list_meaning f xs)
set_is f P R xs h a = subst (λ l. Each P l × Ascends R l) (sym (parts-meanings (map f xs))) (h, a)

-- and a list that means a set has ascending meanings
pub set_items : {T : Type 0} (f : T → Meaning) (P : Meaning → Type 0) (R : Order) (xs : List T) → IsSetOf P R (list_meaning f xs) → Each P (map f xs) × Ascends R (map f xs)
set_items f P R xs h = subst (λ l. Each P l × Ascends R l) (parts-meanings (map f xs)) h

module _ {K : Type 0} (cmp : K → K → Ordering) (f : K → Meaning) (R : Order) (o : IsOrderOf cmp f R) (P : Meaning → Type 0) where
  pub ordered_set_is : (ks : List K) → Each P (map f ks) → IsStrictlySortedBy cmp ks → IsSetOf P R (list_meaning f ks)
  ordered_set_is ks h s = set_is f P R ks h (keys_ascend cmp f R o ks s)

  pub hashed_set_is : Ranks P R → (ks : List K) → Each P (map f ks) → IsSetOf P R (list_meaning f (sort_keys_onto cmp [] ks))
  hashed_set_is r ks h =
      let e = sym (sort_keys_onto-put_all cmp f R o [] ks) in
      set_is f P R (sort_keys_onto cmp [] ks) (subst (Each P) e (sorted-each P R old_stays r (old_joins P R) (map f ks) h)) (subst (Ascends R) e (sorted-ascends P R old_stays r (old_joins P R) (map f ks) h))

  module _ {X : Type 0} (g : X → Meaning) (Q : Meaning → Type 0) where
    pub ordered_map_is : (es : List (K × X)) → Each (IsPairOf P Q) (map (pair_meaning f g) es) → IsStrictlySortedBy cmp (keys_of es)
        → IsMapOf P R Q (list_meaning (pair_meaning f g) es)
    ordered_map_is es h s = set_is (pair_meaning f g) (IsPairOf P Q) (by_first R) es h (entries_ascend cmp f R o g es s)

    pub hashed_map_is : Ranks P R → (es : List (K × X)) → Each (IsPairOf P Q) (map (pair_meaning f g) es) → IsMapOf P R Q (list_meaning (pair_meaning f g) (sort_onto cmp [] es))
    hashed_map_is r es h =
        let e = sym (sort_onto-put_all cmp f R o g [] es) in
        let b = by_first-ranks P Q R r in
        let j = value_joins P Q R in
        set_is (pair_meaning f g) (IsPairOf P Q) (by_first R) (sort_onto cmp [] es)
        (subst (Each (IsPairOf P Q)) e (sorted-each (IsPairOf P Q) (by_first R) value_replaced b j (map (pair_meaning f g) es) h))
        (subst (Ascends (by_first R)) e (sorted-ascends (IsPairOf P Q) (by_first R) value_replaced b j (map (pair_meaning f g) es) h))
