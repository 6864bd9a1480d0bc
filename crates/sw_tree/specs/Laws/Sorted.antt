-- What is put into an ascending list keeps it ascending, and an ascending list put in turn is itself.
use Rattle.std.specs.Prelude.{◌≡◌, List, [], ◌∷◌, ◌++◌, map}
use Rattle.std.specs.List.{AllByRecursion}
use Rattle.std.specs.List.Sorted.{IsStrictlySortedBy}
use Rattle.std.specs.Ordering.{match_ordering}
use Rattle.std.specs.BTreeMap.{insert_entry}
use Rattle.std.specs.BTreeSet.{insert_key}
use Rattle.std.specs.Map.{keys_of}
use Rattle.std.specs.declared.cmp.Ordering.{Ordering}
use Rattle.std.specs.declared.cmp.Ordering.TheVariants.{Less, Equal, Greater}
use Rattle.std.proofs.Common.{refl, ap, sym, ◌∙◌}
use Rattle.sw_tree.specs.Meaning.{Meaning}
use Rattle.sw_tree.specs.Steps.{Each}
use Rattle.sw_tree.specs.Meant.{IsPairOf, pair, pair_meaning}
use Rattle.sw_tree.specs.Ranks.{Order, Ranks, IsOrderOf}
use Rattle.sw_tree.specs.PairRanks.{first}
use Rattle.sw_tree.specs.Sorted.{by_first, Join, old_stays, value_replaced, put, put_all, Ascends, sorted, sort_onto, sort_keys_onto}
use Rattle.sw_tree.specs.Laws.Each.{each_end}
use Rattle.sw_tree.specs.Laws.PairRanks.{first_is, second_is}
use Rattle.sw_tree.specs.Laws.Ranks.{turned_as, less_chain}

pub by_first-ranks : (P Q : Meaning → Type 0) (R : Order) → Ranks P R → Ranks (IsPairOf P Q) (by_first R)
by_first-ranks P Q R o = record {
  itself = λ x h. o.itself (first x) (first_is P Q x h);
  turned = λ x y h k. o.turned (first x) (first y) (first_is P Q x h) (first_is P Q y k);
  chains = λ x y z h k l. o.chains (first x) (first y) (first z) (first_is P Q x h) (first_is P Q y k) (first_is P Q z l);
}

-- what joins two is one of the type's, and compares as the old one does
pub record Joins (P : Meaning → Type 0) (R : Order) (join : Join) : Type 0 where
  pub is : (e v : Meaning) → P e → P v → P (join e v)
  pub left : (e v y : Meaning) → R (join e v) y ≡ R e y
  pub right : (e v y : Meaning) → R y (join e v) ≡ R y e

pub old_joins : (P : Meaning → Type 0) (R : Order) → Joins P R old_stays
old_joins P R = record { is = λ e v h k. h; left = λ e v y. refl; right = λ e v y. refl }

pub value_joins : (P Q : Meaning → Type 0) (R : Order) → Joins (IsPairOf P Q) (by_first R) value_replaced
value_joins P Q R = record { is = λ e v h k. (first_is P Q e h, second_is P Q v k); left = λ e v y. refl; right = λ e v y. refl }

-- ---- what is put
each_more : {A : Type 0} (S T U : A → Type 0) → ((x : A) → S x → T x → U x) → (xs : List A) → Each S xs → Each T xs → Each U xs
each_more S T U f [] h k = tt
each_more S T U f (x ∷ xs) h k = (f x h.0 k.0, each_more S T U f xs h.1 k.1)

module _ (R : Order) (join : Join) (S : Meaning → Type 0) (joins : (e v : Meaning) → S e → S v → S (join e v)) where
  put_case : (e : Meaning) (es : List Meaning) (v : Meaning) (o : Ordering) → S e → Each S es → S v → Each S (put R join es v)
      → Each S (match_ordering o (v ∷ e ∷ es) (join e v ∷ es) (e ∷ put R join es v))
  put_case e es v Less h k l m = (l, (h, k))
  put_case e es v Equal h k l m = (joins e v h l, k)
  put_case e es v Greater h k l m = (h, m)

  -- what holds of each and of the new one holds of each after it
  pub put-each : (es : List Meaning) (v : Meaning) → Each S es → S v → Each S (put R join es v)
  put-each [] v h k = (k, tt)
  put-each (e ∷ es) v h k = put_case e es v (R v e) h.0 h.1 k (put-each es v h.1 k)

  pub put_all-each : (es vs : List Meaning) → Each S es → Each S vs → Each S (put_all R join es vs)
  put_all-each es [] h k = h
  put_all-each es (v ∷ vs) h k = put_all-each (put R join es v) vs (put-each es v h k.0) k.1

module _ (P : Meaning → Type 0) (R : Order) (join : Join) (o : Ranks P R) (j : Joins P R join) where
  ascends_case : (e : Meaning) (es : List Meaning) (v : Meaning) (r : Ordering) → R v e ≡ r → P e → Each P es → P v
      → Each (λ y. R e y ≡ Less) es → Ascends R es → Ascends R (put R join es v)
      → Ascends R (match_ordering r (v ∷ e ∷ es) (join e v ∷ es) (e ∷ put R join es v))
  ascends_case e es v Less q h k l a b c = ((q, each_more P (λ y. R e y ≡ Less) (λ y. R v y ≡ Less) (λ y s t. less_chain P R o v e y l h s q t) es k a), (a, b))
  ascends_case e es v Equal q h k l a b c = (each_more P (λ y. R e y ≡ Less) (λ y. R (join e v) y ≡ Less) (λ y s t. j.left e v y ∙ t) es k a, b)
  ascends_case e es v Greater q h k l a b c = (put-each R join (λ y. R e y ≡ Less) (λ d w s t. j.right d w e ∙ s) es v a (turned_as P R o v e l h Greater q), c)

  pub put-ascends : (es : List Meaning) (v : Meaning) → Each P es → Ascends R es → P v → Ascends R (put R join es v)
  put-ascends [] v h a k = (tt, tt)
  put-ascends (e ∷ es) v h a k = ascends_case e es v (R v e) refl h.0 h.1 k a.0 a.1 (put-ascends es v h.1 a.1 k)

  pub put_all-ascends : (es vs : List Meaning) → Each P es → Ascends R es → Each P vs → Ascends R (put_all R join es vs)
  put_all-ascends es [] h a k = a
  put_all-ascends es (v ∷ vs) h a k = put_all-ascends (put R join es v) vs (put-each R join P j.is es v h k.0) (put-ascends es v h a k.0) k.1

  pub sorted-each : (vs : List Meaning) → Each P vs → Each P (sorted R join vs)
  sorted-each vs h = put_all-each R join P j.is [] vs tt h

  pub sorted-ascends : (vs : List Meaning) → Each P vs → Ascends R (sorted R join vs)
  sorted-ascends vs h = put_all-ascends [] vs tt tt h

  -- ---- an ascending list put in turn

  -- one above all goes to the end
  put_end : (es : List Meaning) (v : Meaning) → Each (λ e. R v e ≡ Greater) es → put R join es v ≡ es ++ v ∷ []
  put_end [] v h = refl
  put_end (e ∷ es) v h = ap (λ r. match_ordering r (v ∷ e ∷ es) (join e v ∷ es) (e ∷ put R join es v)) h.0 ∙ ap (λ l. e ∷ l) (put_end es v h.1)

  all_above : (es : List Meaning) (v : Meaning) (ws : List Meaning) → P v → Each P ws → Each (λ y. R v y ≡ Less) ws → Each (λ w. Each (λ e. R w e ≡ Greater) es) ws
      → Each (λ w. Each (λ e. R w e ≡ Greater) (es ++ v ∷ [])) ws
  all_above es v [] h k a b = tt
  all_above es v (w ∷ ws) h k a b = (each_end (λ e. R w e ≡ Greater) es v b.0 (turned_as P R o v w h k.0 Less a.0), all_above es v ws h k.1 a.1 b.1)

  -- ascending ones, each above all of the list, go to its end in turn
  pub put_all-above : (es vs : List Meaning) → Each P vs → Ascends R vs → Each (λ w. Each (λ e. R w e ≡ Greater) es) vs → put_all R join es vs ≡ es ++ vs
  put_all-above es [] h a b = sym (end_none es)
    where
      end_none : (xs : List Meaning) → xs ++ [] ≡ xs
      end_none [] = refl
      end_none (x ∷ xs) = ap (λ l. x ∷ l) (end_none xs)
  put_all-above es (v ∷ vs) h a b =
      ap (λ l. put_all R join l vs) (put_end es v b.0)
      ∙ put_all-above (es ++ v ∷ []) vs h.1 a.1 (all_above es v vs h.0 h.1 a.0 b.1)
      ∙ joined es
    where
      joined : (xs : List Meaning) → (xs ++ v ∷ []) ++ vs ≡ xs ++ v ∷ vs
      joined [] = refl
      joined (x ∷ xs) = ap (λ l. x ∷ l) (joined xs)

  none_above : (vs : List Meaning) → Each (λ w. Each (λ e. R w e ≡ Greater) []) vs
  none_above [] = tt
  none_above (v ∷ vs) = (tt, none_above vs)

  pub sorted-same : (vs : List Meaning) → Each P vs → Ascends R vs → sorted R join vs ≡ vs
  sorted-same vs h a = put_all-above [] vs h a (none_above vs)

-- ---- what std's calls do, in meanings
module _ {K : Type 0} (cmp : K → K → Ordering) (f : K → Meaning) (R : Order) (o : IsOrderOf cmp f R) where
  key_case : (x : K) (xs : List K) (k : K) (r : Ordering) → map f (insert_key cmp xs k) ≡ put R old_stays (map f xs) (f k)
      → map f (match_ordering r (k ∷ x ∷ xs) (x ∷ xs) (x ∷ insert_key cmp xs k)) ≡ match_ordering r (f k ∷ f x ∷ map f xs) (f x ∷ map f xs) (f x ∷ put R old_stays (map f xs) (f k))
  key_case x xs k Less e = refl
  key_case x xs k Equal e = refl
  key_case x xs k Greater e = ap (λ l. f x ∷ l) e

  pub insert_key-put : (xs : List K) (k : K) → map f (insert_key cmp xs k) ≡ put R old_stays (map f xs) (f k)
  insert_key-put [] k = refl
  insert_key-put (x ∷ xs) k =
      key_case x xs k (cmp k x) (insert_key-put xs k)
      ∙ ap (λ r. match_ordering r (f k ∷ f x ∷ map f xs) (f x ∷ map f xs) (f x ∷ put R old_stays (map f xs) (f k))) (o k x)

  pub sort_keys_onto-put_all : (others ks : List K) → map f (sort_keys_onto cmp others ks) ≡ put_all R old_stays (map f others) (map f ks)
  sort_keys_onto-put_all others [] = refl
  sort_keys_onto-put_all others (k ∷ ks) = sort_keys_onto-put_all (insert_key cmp others k) ks ∙ ap (λ l. put_all R old_stays l (map f ks)) (insert_key-put others k)

  each_below : (x : K) (xs : List K) → AllByRecursion (λ y. cmp x y ≡ Less) xs → Each (λ v. R (f x) v ≡ Less) (map f xs)
  each_below x [] h = tt
  each_below x (y ∷ ys) h = (sym (o x y) ∙ h.0, each_below x ys h.1)

  pub keys_ascend : (xs : List K) → IsStrictlySortedBy cmp xs → Ascends R (map f xs)
  unfolding IsStrictlySortedBy
  keys_ascend [] h = tt
  keys_ascend (x ∷ xs) h = (each_below x xs h.0, keys_ascend xs h.1)

  module _ {X : Type 0} (g : X → Meaning) where
    abbrev pairs : List (K × X) → List Meaning
    pairs es = map (pair_meaning f g) es

    abbrev put_pair : List Meaning → Meaning → List Meaning
    put_pair vs v = put (by_first R) value_replaced vs v

    entry_case : (e : K × X) (es : List (K × X)) (k : K) (v : X) (r : Ordering) → pairs (insert_entry cmp es k v) ≡ put_pair (pairs es) (pair_meaning f g (k, v))
        → pairs (match_ordering r ((k, v) ∷ e ∷ es) ((e.0, v) ∷ es) (e ∷ insert_entry cmp es k v))
        ≡ match_ordering r (pair (f k) (g v) ∷ pair_meaning f g e ∷ pairs es) (pair (f e.0) (g v) ∷ pairs es) (pair_meaning f g e ∷ put_pair (pairs es) (pair (f k) (g v)))
    entry_case e es k v Less q = refl
    entry_case e es k v Equal q = refl
    entry_case e es k v Greater q = ap (λ l. pair_meaning f g e ∷ l) q

    pub insert_entry-put : (es : List (K × X)) (k : K) (v : X) → map (pair_meaning f g) (insert_entry cmp es k v) ≡ put (by_first R) value_replaced (map (pair_meaning f g) es) (pair_meaning f g (k, v))
    insert_entry-put [] k v = refl
    insert_entry-put (e ∷ es) k v =
        entry_case e es k v (cmp k e.0) (insert_entry-put es k v)
        ∙ ap (λ r. match_ordering r (pair (f k) (g v) ∷ pair_meaning f g e ∷ pairs es) (pair (f e.0) (g v) ∷ pairs es) (pair_meaning f g e ∷ put_pair (pairs es) (pair (f k) (g v)))) (o k e.0)

    pub sort_onto-put_all : (others es : List (K × X))
        → map (pair_meaning f g) (sort_onto cmp others es) ≡ put_all (by_first R) value_replaced (map (pair_meaning f g) others) (map (pair_meaning f g) es)
    sort_onto-put_all others [] = refl
    sort_onto-put_all others (e ∷ es) =
        sort_onto-put_all (insert_entry cmp others e.0 e.1) es ∙ ap (λ l. put_all (by_first R) value_replaced l (pairs es)) (insert_entry-put others e.0 e.1)

    entries_below : (k : K) (w : Meaning) (es : List (K × X)) → AllByRecursion (λ y. cmp k y ≡ Less) (keys_of es) → Each (λ v. by_first R (pair (f k) w) v ≡ Less) (map (pair_meaning f g) es)
    entries_below k w [] h = tt
    entries_below k w (e ∷ es) h = (sym (o k e.0) ∙ h.0, entries_below k w es h.1)

    pub entries_ascend : (es : List (K × X)) → IsStrictlySortedBy cmp (keys_of es) → Ascends (by_first R) (map (pair_meaning f g) es)
    unfolding IsStrictlySortedBy
    entries_ascend [] h = tt
    entries_ascend (e ∷ es) h = (entries_below e.0 (g e.1) es h.0, entries_ascend es h.1)
