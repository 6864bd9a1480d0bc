-- Lists and arrays are in order where their items are.
use Rattle.std.specs.Prelude.{◌≡◌, List, [], ◌∷◌, map, ℕ}
use Rattle.std.specs.Ordering.{ordering_then}
use Rattle.std.specs.declared.cmp.Ordering.{Ordering}
use Rattle.std.specs.declared.cmp.Ordering.TheVariants.{Equal}
use Rattle.std.specs.Cmp.{IsTotalOrder, on_total}
use Rattle.std.specs.Cmp.Lexicographic.{slice_cmp, lists_total}
use Rattle.std.proofs.Common.{refl, ap, sym, subst, ◌∙◌}
use Rattle.sw_tree.specs.Meaning.{Meaning, meanings, parts, list}
use Rattle.sw_tree.specs.Steps.{Each}
use Rattle.sw_tree.specs.Meant.{IsListOf, IsArrayOf}
use Rattle.sw_tree.specs.Ranks.{Order, IsOrderOf, Ranks, TellsApart}
use Rattle.sw_tree.specs.ListRanks.{list_of, list_order}
use Rattle.sw_tree.specs.Laws.Meaning.{meanings-parts}
use Rattle.sw_tree.specs.Laws.Ranks.{Of, ranks_from_total, total_from_ranks, ranks_of_fewer, fewer_apart, both_level}

pub slice_order : {T : Type 0} (cmp : T → T → Ordering) (f : T → Meaning) (R : Order) → IsOrderOf cmp f R → (xs ys : List T) →
    slice_cmp cmp xs ys ≡ slice_cmp R (parts (meanings (map f xs))) (parts (meanings (map f ys)))
slice_order cmp f R o [] [] = refl
slice_order cmp f R o [] (y ∷ ys) = refl
slice_order cmp f R o (x ∷ xs) [] = refl
slice_order cmp f R o (x ∷ xs) (y ∷ ys) = λ i. ordering_then (o x y i) (slice_order cmp f R o xs ys i)

module _ (P : Meaning → Type 0) where
  list_is : (x : Meaning) → IsListOf P x → Each P (list_of x)
  list_is (list vs) h = h
  list_is _ h = absurd h

  same_list : (x : Meaning) → IsListOf P x → x ≡ list (meanings (list_of x))
  same_list (list vs) h = ap list (sym (meanings-parts vs))
  same_list _ h = absurd h

  abbrev proved : (xs : List Meaning) → Each P xs → List (Of P)
  proved [] h = []
  proved (x ∷ xs) h = (x, h.0) ∷ proved xs h.1

  array_is : (n : ℕ) (x : Meaning) → IsArrayOf P n x → IsListOf P x
  array_is n (list vs) h = h.0
  array_is n _ h = absurd h

  module _ (R : Order) where
    as_proved : (xs ys : List Meaning) (h : Each P xs) (k : Each P ys) → slice_cmp (λ a b. R a.0 b.0) (proved xs h) (proved ys k) ≡ slice_cmp R xs ys
    as_proved [] [] h k = refl
    as_proved [] (y ∷ ys) h k = refl
    as_proved (x ∷ xs) [] h k = refl
    as_proved (x ∷ xs) (y ∷ ys) h k = ap (ordering_then (R x y)) (as_proved xs ys h.1 k.1)

    pub list_ranks : Ranks P R → Ranks (IsListOf P) (list_order R)
    list_ranks r = ranks_from_total (IsListOf P) (list_order R)
        (subst IsTotalOrder (λ i a b. as_proved (list_of a.0) (list_of b.0) (list_is a.0 a.1) (list_is b.0 b.1) i)
        (on_total (λ (a : Of (IsListOf P)). proved (list_of a.0) (list_is a.0 a.1)) (lists_total (total_from_ranks P R r))))

    items_apart : TellsApart P R → (xs ys : List Meaning) → Each P xs → Each P ys → slice_cmp R xs ys ≡ Equal → xs ≡ ys
    items_apart r [] [] h k e = refl
    items_apart r [] (y ∷ ys) h k e = absurd (cc)
    items_apart r (x ∷ xs) [] h k e = absurd (cc)
    items_apart r (x ∷ xs) (y ∷ ys) h k e =
        let b = both_level (R x y) (slice_cmp R xs ys) e in
        λ i. r x y h.0 k.0 b.0 i ∷ items_apart r xs ys h.1 k.1 b.1 i

    pub lists_apart : TellsApart P R → TellsApart (IsListOf P) (list_order R)
    lists_apart r x y h k e =
        same_list x h ∙ ap (λ l. list (meanings l)) (items_apart r (list_of x) (list_of y) (list_is x h) (list_is y k) e) ∙ sym (same_list y k)

    pub array_ranks : Ranks P R → (n : ℕ) → Ranks (IsArrayOf P n) (list_order R)
    array_ranks r n = ranks_of_fewer (IsListOf P) (IsArrayOf P n) (list_order R) (array_is n) (list_ranks r)

    pub arrays_apart : TellsApart P R → (n : ℕ) → TellsApart (IsArrayOf P n) (list_order R)
    arrays_apart r n = fewer_apart (IsListOf P) (IsArrayOf P n) (list_order R) (array_is n) (lists_apart r)
