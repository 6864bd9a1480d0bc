-- What is written where an item stands alone, and where none does; and that a set in order has the same one alone.
use Rattle.std.proofs.Common.{◌≡◌, Bool, true, false, List, [], ◌∷◌, Some, None, Result, refl, ap, sym, subst, ◌∙◌}
use Rattle.std.specs.BTreeSet.{insert_key}
use Rattle.std.specs.Cmp.{IsTotalOrder}
use Rattle.std.specs.List.{IsDistinct}
use Rattle.std.specs.Ordering.{ordering_reverse, is_eq, match_ordering}
use Rattle.std.specs.declared.cmp.Ordering.{Ordering}
use Rattle.std.specs.declared.cmp.Ordering.TheVariants.{Less, Equal, Greater}
use Rattle.sw_tree.specs.Building.{IsPut}
use Rattle.sw_tree.specs.Meaning.{Meaning}
use Rattle.sw_tree.specs.Meant.{list_meaning}
use Rattle.sw_tree.specs.Mode.{at_value}
use Rattle.sw_tree.specs.Sorted.{sort_keys_onto}
use Rattle.sw_tree.specs.Tree.{Tree}
use Rattle.sw_tree.specs.declared.mode.Mode.{Mode}
use Rattle.sw_tree.specs.declared.fail.SerFail.{SerFail}
use Rattle.sw_elem.specs.Equations.{Writes}
use Rattle.sw_core.specs.Vec.{list_writes}
use Rattle.sw_policy.specs.Inner.Lone.{lone_of}
use Rattle.sw_policy.specs.OneOrMany.{one_or_many_writes}

-- ---- what is written

alone_written : {T : Type 0} (b : Bool) (w : Writes) (m : Mode) (f : T → Meaning) (xs : List T) (x : T) → Some x ≡ lone_of b xs → w (at_value m) (f x) ≡ one_or_many_writes b w m (list_meaning f xs)
alone_written false w m f xs x h = absurd (cc)
alone_written true w m f [] x h = absurd (cc)
alone_written true w m f (y ∷ []) x h = let e : x ≡ y = cc in ap (λ z. w (at_value m) (f z)) e
alone_written true w m f (y ∷ z ∷ xs) x h = absurd (cc)

many_written : {T : Type 0} (b : Bool) (w : Writes) (m : Mode) (f : T → Meaning) (xs : List T) → None ≡ lone_of b xs → list_writes w m (list_meaning f xs) ≡ one_or_many_writes b w m (list_meaning f xs)
many_written false w m f xs h = refl
many_written true w m f [] h = refl
many_written true w m f (x ∷ []) h = absurd (cc)
many_written true w m f (x ∷ y ∷ xs) h = refl

module _ {B T : Type 0} (put : Tree → B → B) (b : Bool) (w : Writes) (m : Mode) (f : T → Meaning) (xs : List T) (out new : B) (result : Result (Unit {0}) SerFail) where
  -- the item that stands alone is put in
  pub alone_put : (x : T) → Some x ≡ lone_of b xs → IsPut put result (w (at_value m) (f x)) out new → IsPut put result (one_or_many_writes b w m (list_meaning f xs)) out new
  alone_put x h p = subst (λ r. IsPut put result r out new) (alone_written b w m f xs x h) p

  -- the list is put in
  pub many_put : None ≡ lone_of b xs → IsPut put result (list_writes w m (list_meaning f xs)) out new → IsPut put result (one_or_many_writes b w m (list_meaning f xs)) out new
  many_put h p = subst (λ r. IsPut put result r out new) (many_written b w m f xs h) p

-- ---- a set in order

module _ {K : Type 0} where
  abbrev HasTwo : List K → Type 0
  HasTwo [] = ⊥
  HasTwo (x ∷ []) = ⊥
  HasTwo (x ∷ y ∷ xs) = Unit {0}

  none_alone : (xs : List K) → HasTwo xs → lone_of true xs ≡ None
  none_alone [] h = absurd h
  none_alone (x ∷ []) h = absurd h
  none_alone (x ∷ y ∷ xs) h = refl

  two_apart : (r : Ordering) (x y : K) → is_eq r ≡ false → HasTwo (match_ordering (ordering_reverse r) (y ∷ x ∷ []) (x ∷ []) (x ∷ y ∷ []))
  two_apart Less x y h = tt
  two_apart Equal x y h = absurd (cc)
  two_apart Greater x y h = tt

  two_more : (r s : Ordering) (k x y : K) (xs ys : List K) → HasTwo (match_ordering r (k ∷ x ∷ y ∷ xs) (x ∷ y ∷ xs) (x ∷ match_ordering s (k ∷ y ∷ xs) (y ∷ xs) (y ∷ ys)))
  two_more Less s k x y xs ys = tt
  two_more Equal s k x y xs ys = tt
  two_more Greater Less k x y xs ys = tt
  two_more Greater Equal k x y xs ys = tt
  two_more Greater Greater k x y xs ys = tt

  module _ (cmp : K → K → Ordering) where
    two_inserted : (xs : List K) (k : K) → HasTwo xs → HasTwo (insert_key cmp xs k)
    two_inserted [] k h = absurd h
    two_inserted (x ∷ []) k h = absurd h
    two_inserted (x ∷ y ∷ xs) k h = two_more (cmp k x) (cmp k y) k x y xs (insert_key cmp xs k)

    two_sorted : (xs ks : List K) → HasTwo xs → HasTwo (sort_keys_onto cmp xs ks)
    two_sorted xs [] h = h
    two_sorted xs (k ∷ ks) h = two_sorted (insert_key cmp xs k) ks (two_inserted xs k h)

    -- in order, the same item stands alone
    pub lone_sorted : (eq : K → K → Bool) → IsTotalOrder cmp → ((x y : K) → eq x y ≡ is_eq (cmp x y)) → (b : Bool) (ks : List K) → IsDistinct eq ks → lone_of b ks ≡ lone_of b (sort_keys_onto cmp [] ks)
    unfolding IsDistinct
    lone_sorted eq o ties false ks d = refl
    lone_sorted eq o ties true [] d = refl
    lone_sorted eq o ties true (x ∷ []) d = refl
    lone_sorted eq o ties true (x ∷ y ∷ ks) d =
        let two : HasTwo (insert_key cmp (x ∷ []) y) =
        subst (λ r. HasTwo (match_ordering r (y ∷ x ∷ []) (x ∷ []) (x ∷ y ∷ []))) (sym (o.antisymm y x)) (two_apart (cmp x y) x y (sym (ties x y) ∙ d.0.0)) in
        sym (none_alone (sort_keys_onto cmp (insert_key cmp (x ∷ []) y) ks) (two_sorted (insert_key cmp (x ∷ []) y) ks two))
