-- An insertion into a hashed map or set is one into its entries or keys in order.
use Rattle.std.specs.Prelude.{◌≡◌, List, [], ◌∷◌, IsPermutation, Contains, ◌⊎◌, false, ◌++◌, true, Bool, cond, Option, Some, None, MatchOption, not, ◌||◌}
use Rattle.std.specs.Bool.{MatchBool}
use Rattle.std.specs.List.{AllByRecursion, IsDistinct, list_any}
use Rattle.std.specs.Ordering.{ordering_reverse, is_eq, match_ordering}
use Rattle.std.specs.BTreeMap.{insert_entry}
use Rattle.std.specs.BTreeSet.{insert_key}
use Rattle.std.specs.Map.{keys_of, lookup, set_value}
use Rattle.std.specs.Cmp.{IsTotalOrder, on_total}
use Rattle.std.specs.declared.cmp.Ordering.{Ordering}
use Rattle.std.specs.declared.cmp.Ordering.TheVariants.{Less, Equal, Greater}
use Rattle.std.proofs.Common.{arith, refl, subst, inl, inr, ⊎_elim, ap, sym, ◌∙◌}
use Rattle.std.proofs.lemmas.List.Elements.{All-contains, All-from_recursion, Contains-append_right}
use Rattle.std.proofs.lemmas.List.Sorted.{Contains-permutation, IsPermutation-sym, IsPermutation-middle}
use Rattle.std.proofs.lemmas.Map.Keys.{IsDistinct-IsPermutation}
use Rattle.sw_tree.specs.Steps.{Each}
use Rattle.sw_tree.specs.Sorted.{Ascends, put, put_all, sorted, sort_onto, sort_keys_onto}

-- ---- what is in a list
module _ {A : Type 0} where
  abbrev Has : List A → A → Type 0
  Has [] z = ⊥
  Has (x ∷ xs) z = (x ≡ z) ⊎ Has xs z

  has_each : (S : A → Type 0) (xs : List A) → Each S xs → (z : A) → Has xs z → S z
  has_each S [] h z m = absurd m
  has_each S (x ∷ xs) h z m = ⊎_elim (λ e. subst S e h.0) (λ n. has_each S xs h.1 z n) m

  each_has : (S : A → Type 0) (xs : List A) → ((z : A) → Has xs z → S z) → Each S xs
  each_has S [] f = tt
  each_has S (x ∷ xs) f = (f x (inl refl), each_has S xs (λ z m. f z (inr m)))

  all_later : (x : A) (xs ys : List A) → AllByRecursion (Has xs) ys → AllByRecursion (Has (x ∷ xs)) ys
  all_later x xs [] h = tt
  all_later x xs (y ∷ ys) h = (inr h.0, all_later x xs ys h.1)

  all_has : (xs : List A) → AllByRecursion (Has xs) xs
  all_has [] = tt
  all_has (x ∷ xs) = (inl refl, all_later x xs xs (all_has xs))

  has_contained : (xs : List A) (z : A) → Contains xs z → Has xs z
  has_contained xs z c = All-contains (Has xs) xs z (All-from_recursion (Has xs) xs (all_has xs)) c

  contained : (xs : List A) (z : A) → Has xs z → Contains xs z
  contained [] z m = absurd m
  contained (x ∷ xs) z m = ⊎_elim (λ e. subst (Contains (x ∷ xs)) e (head x xs)) (λ n. Contains-append_right (x ∷ []) xs z (contained xs z n)) m
    where
      head : (y : A) (ys : List A) → Contains (y ∷ ys) y
      head y ys = (0, (omega arith), refl)

  has_permuted : (xs ys : List A) (z : A) → IsPermutation xs ys → Has xs z → Has ys z
  has_permuted xs ys z p m = has_contained ys z (Contains-permutation xs ys z p (contained xs z m))

turn_level : (r : Ordering) → is_eq (ordering_reverse r) ≡ is_eq r
turn_level Less = refl
turn_level Equal = refl
turn_level Greater = refl

clash : (r : Ordering) → r ≡ Less → r ≡ Greater → ⊥
clash r p q = cc

-- ---- lists of which no two compare equal, in order
module _ {A : Type 0} (R : A → A → Ordering) where
  -- none compares equal to x
  abbrev Apart : A → List A → Type 0
  Apart x ys = Each (λ y. is_eq (R x y) ≡ false) ys

  abbrev AllApart : List A → Type 0
  AllApart [] = Unit {0}
  AllApart (x ∷ xs) = Apart x xs × AllApart xs

  apart_distinct : (xs : List A) → AllApart xs → IsDistinct (λ x y. is_eq (R x y)) xs
  unfolding IsDistinct
  apart_distinct [] h = tt
  apart_distinct (x ∷ xs) h = (each xs h.0, apart_distinct xs h.1)
    where
      each : (ys : List A) → Apart x ys → AllByRecursion (λ y. is_eq (R x y) ≡ false) ys
      each [] k = tt
      each (y ∷ ys) k = (k.0, each ys k.1)

  distinct_apart : (xs : List A) → IsDistinct (λ x y. is_eq (R x y)) xs → AllApart xs
  unfolding IsDistinct
  distinct_apart [] h = tt
  distinct_apart (x ∷ xs) h = (each xs h.0, distinct_apart xs h.1)
    where
      each : (ys : List A) → AllByRecursion (λ y. is_eq (R x y) ≡ false) ys → Apart x ys
      each [] k = tt
      each (y ∷ ys) k = (k.0, each ys k.1)

module _ {A : Type 0} (R : A → A → Ordering) (o : IsTotalOrder R) where
  never : (x y : A) → R x y ≡ Less → R y x ≡ Less → ⊥
  never x y p q = clash (R x y) p (o.antisymm x y ∙ ap ordering_reverse q)

  flips : (x y : A) → is_eq (R x y) ≡ is_eq (R y x)
  flips x y = ap is_eq (o.antisymm x y) ∙ turn_level (R y x)

  -- ascending lists that have the same are the same
  ascending_same : (xs ys : List A) → Ascends R xs → Ascends R ys → ((z : A) → Has xs z → Has ys z) → ((z : A) → Has ys z → Has xs z) → xs ≡ ys
  ascending_same [] [] a b f g = refl
  ascending_same [] (y ∷ ys) a b f g = absurd (g y (inl refl))
  ascending_same (x ∷ xs) [] a b f g = absurd (f x (inl refl))
  ascending_same (x ∷ xs) (y ∷ ys) a b f g =
      let head : x ≡ y =
      ⊎_elim (λ e. sym e)
      (λ m. ⊎_elim (λ e. e) (λ n. absurd (never x y (has_each (λ d. R x d ≡ Less) xs a.0 y n) (has_each (λ d. R y d ≡ Less) ys b.0 x m))) (g y (inl refl)))
      (f x (inl refl)) in
      let not_x : Has xs x → ⊥ = λ m. let p = has_each (λ d. R x d ≡ Less) xs a.0 x m in never x x p p in
      let not_y : Has ys y → ⊥ = λ m. let p = has_each (λ d. R y d ≡ Less) ys b.0 y m in never y y p p in
      λ i. head i ∷ ascending_same xs ys a.1 b.1
      (λ z m. ⊎_elim (λ e. absurd (not_x (subst (Has xs) (sym e ∙ sym head) m))) (λ n. n) (f z (inr m)))
      (λ z m. ⊎_elim (λ e. absurd (not_y (subst (Has ys) (sym e ∙ head) m))) (λ n. n) (g z (inr m))) i

  apart_permuted : (xs ys : List A) → IsPermutation xs ys → AllApart R xs → AllApart R ys
  apart_permuted xs ys p h = distinct_apart R ys (IsDistinct-IsPermutation (λ x y. is_eq (R x y)) flips xs ys p (apart_distinct R xs h))

  module _ (join : A → A → A) where
    module _ (x : A) where
      in_case : (e : A) (es : List A) (z : A) (r : Ordering) → is_eq r ≡ false → ((x ≡ z) ⊎ Has es z → Has (put R join es x) z)
          → (x ≡ z) ⊎ ((e ≡ z) ⊎ Has es z) → Has (match_ordering r (x ∷ e ∷ es) (join e x ∷ es) (e ∷ put R join es x)) z
      in_case e es z Less n f m = m
      in_case e es z Equal n f m = absurd (cc)
      in_case e es z Greater n f m = ⊎_elim (λ p. inr (f (inl p))) (λ q. ⊎_elim (λ p. inl p) (λ h. inr (f (inr h))) q) m

      put_in : (es : List A) (z : A) → Apart R x es → (x ≡ z) ⊎ Has es z → Has (put R join es x) z
      put_in [] z a m = m
      put_in (e ∷ es) z a m = in_case e es z (R x e) a.0 (put_in es z a.1) m

      out_case : (e : A) (es : List A) (z : A) (r : Ordering) → is_eq r ≡ false → (Has (put R join es x) z → (x ≡ z) ⊎ Has es z)
          → Has (match_ordering r (x ∷ e ∷ es) (join e x ∷ es) (e ∷ put R join es x)) z → (x ≡ z) ⊎ ((e ≡ z) ⊎ Has es z)
      out_case e es z Less n f m = m
      out_case e es z Equal n f m = absurd (cc)
      out_case e es z Greater n f m = ⊎_elim (λ p. inr (inl p)) (λ h. ⊎_elim (λ p. inl p) (λ q. inr (inr q)) (f h)) m

      put_out : (es : List A) (z : A) → Apart R x es → Has (put R join es x) z → (x ≡ z) ⊎ Has es z
      put_out [] z a m = m
      put_out (e ∷ es) z a m = out_case e es z (R x e) a.0 (put_out es z a.1) m

      ascends_case : (e : A) (es : List A) (r : Ordering) → R x e ≡ r → is_eq r ≡ false → Apart R x es → Each (λ d. R e d ≡ Less) es
          → Ascends R es → Ascends R (put R join es x)
          → Ascends R (match_ordering r (x ∷ e ∷ es) (join e x ∷ es) (e ∷ put R join es x))
      ascends_case e es Less p n a b c d = ((p, each_has (λ d. R x d ≡ Less) es (λ z m. o.trans x e z p (has_each (λ d. R e d ≡ Less) es b z m))), (b, c))
      ascends_case e es Equal p n a b c d = absurd (cc)
      ascends_case e es Greater p n a b c d =
          (each_has (λ d. R e d ≡ Less) (put R join es x) (λ z m. ⊎_elim (λ q. ap (R e) (sym q) ∙ o.antisymm e x ∙ ap ordering_reverse p) (λ h. has_each (λ d. R e d ≡ Less) es b z h) (put_out es z a m)), d)

      put_ascends : (es : List A) → Apart R x es → Ascends R es → Ascends R (put R join es x)
      put_ascends [] a s = (tt, tt)
      put_ascends (e ∷ es) a s = ascends_case e es (R x e) refl a.0 a.1 s.0 s.1 (put_ascends es a.1 s.1)

    abbrev Across : List A → List A → Type 0
    Across others es = (y z : A) → Has es y → Has others z → is_eq (R y z) ≡ false

    here : (others : List A) (e : A) (es : List A) → Across others (e ∷ es) → Apart R e others
    here others e es c = each_has (λ d. is_eq (R e d) ≡ false) others (λ w k. c e w (inl refl) k)

    across_next : (others : List A) (e : A) (es : List A) → Across others (e ∷ es) → Apart R e es → Across (put R join others e) es
    across_next others e es c a y z m n =
        ⊎_elim
        (λ p. ap (λ x. is_eq (R y x)) (sym p) ∙ flips y e ∙ has_each (λ d. is_eq (R e d) ≡ false) es a y m)
        (λ h. c y z (inr m) h)
        (put_out e others z (here others e es c) n)

    all_ascends : (others es : List A) → Ascends R others → Across others es → AllApart R es → Ascends R (put_all R join others es)
    all_ascends others [] s c d = s
    all_ascends others (e ∷ es) s c d = all_ascends (put R join others e) es (put_ascends e others (here others e es c) s) (across_next others e es c d.0) d.1

    all_in : (others es : List A) (z : A) → Across others es → AllApart R es → Has others z ⊎ Has es z → Has (put_all R join others es) z
    all_in others [] z c d m = ⊎_elim (λ h. h) (λ h. absurd h) m
    all_in others (e ∷ es) z c d m =
        let a = here others e es c in
        all_in (put R join others e) es z (across_next others e es c d.0) d.1
        (⊎_elim (λ h. inl (put_in e others z a (inr h))) (λ q. ⊎_elim (λ p. inl (put_in e others z a (inl p))) (λ h. inr h) q) m)

    all_out : (others es : List A) (z : A) → Across others es → AllApart R es → Has (put_all R join others es) z → Has others z ⊎ Has es z
    all_out others [] z c d m = inl m
    all_out others (e ∷ es) z c d m =
        ⊎_elim
        (λ h. ⊎_elim (λ p. inr (inl p)) (λ q. inl q) (put_out e others z (here others e es c) h))
        (λ h. inr (inr h))
        (all_out (put R join others e) es z (across_next others e es c d.0) d.1 m)

    none_across : (es : List A) → Across [] es
    none_across es y z m n = absurd n

    sorted_in : (es : List A) → AllApart R es → (z : A) → Has es z → Has (sorted R join es) z
    sorted_in es d z m = all_in [] es z (none_across es) d (inr m)

    sorted_out : (es : List A) → AllApart R es → (z : A) → Has (sorted R join es) z → Has es z
    sorted_out es d z m = ⊎_elim (λ n. absurd n) (λ n. n) (all_out [] es z (none_across es) d m)

    sorted_ascends : (es : List A) → AllApart R es → Ascends R (sorted R join es)
    sorted_ascends es d = all_ascends [] es tt (none_across es) d

    -- the order in which they are put makes no difference
    sorted-permuted : (es fs : List A) → IsPermutation es fs → AllApart R es → sorted R join es ≡ sorted R join fs
    sorted-permuted es fs p d =
        let k = apart_permuted es fs p d in
        ascending_same (sorted R join es) (sorted R join fs) (sorted_ascends es d) (sorted_ascends fs k)
        (λ z m. sorted_in fs k z (has_permuted es fs z p (sorted_out es d z m)))
        (λ z m. sorted_in es d z (has_permuted fs es z (IsPermutation-sym es fs p) (sorted_out fs k z m)))

    -- a list that has one more
    put-fresh : (x : A) (es fs : List A) → IsPermutation (x ∷ es) fs → AllApart R fs → sorted R join fs ≡ put R join (sorted R join es) x
    put-fresh x es fs p k =
        let back = IsPermutation-sym (x ∷ es) fs p in
        let d = apart_permuted fs (x ∷ es) back k in
        let a : Apart R x (sorted R join es) = each_has (λ y. is_eq (R x y) ≡ false) (sorted R join es) (λ z m. has_each (λ y. is_eq (R x y) ≡ false) es d.0 z (sorted_out es d.1 z m)) in
        ascending_same (sorted R join fs) (put R join (sorted R join es) x) (sorted_ascends fs k) (put_ascends x (sorted R join es) a (sorted_ascends es d.1))
        (λ z m. put_in x (sorted R join es) z a (⊎_elim (λ e. inl e) (λ n. inr (sorted_in es d.1 z n)) (has_permuted fs (x ∷ es) z back (sorted_out fs k z m))))
        (λ z m. sorted_in fs k z (has_permuted (x ∷ es) fs z p
        (⊎_elim (λ e. inl e) (λ n. inr (sorted_out es d.1 z n)) (put_out x (sorted R join es) z a m))))

    module _ (left : (e v y : A) → R (join e v) y ≡ R e y) (again : (e v w : A) → join (join e v) w ≡ join e (join v w)) where
      twice_case : (e : A) (es : List A) (x y : A) (r : Ordering) → R x e ≡ r → R y x ≡ Equal → put R join (put R join es x) y ≡ put R join es (join x y)
          → put R join (match_ordering r (x ∷ e ∷ es) (join e x ∷ es) (e ∷ put R join es x)) y ≡ match_ordering r (join x y ∷ e ∷ es) (join e (join x y) ∷ es) (e ∷ put R join es (join x y))
      twice_case e es x y Less p q h = rw q refl
      twice_case e es x y Equal p q h =
          let t : R y (join e x) ≡ Equal = o.congr y x (join e x) q ∙ o.antisymm x (join e x) ∙ ap ordering_reverse (left e x x ∙ o.antisymm e x ∙ ap ordering_reverse p) in
          ap (λ r. match_ordering r (y ∷ join e x ∷ es) (join (join e x) y ∷ es) (join e x ∷ put R join es y)) t ∙ ap (λ d. d ∷ es) (again e x y)
      twice_case e es x y Greater p q h =
          let t : R y e ≡ Greater = o.congr y x e q ∙ p in
          ap (λ r. match_ordering r (y ∷ e ∷ put R join es x) (join e y ∷ put R join es x) (e ∷ put R join (put R join es x) y)) t ∙ ap (λ l. e ∷ l) h

      -- one put after another that compares equal
      put-twice : (es : List A) (x y : A) → R y x ≡ Equal → put R join (put R join es x) y ≡ put R join es (join x y)
      put-twice [] x y q = rw q refl
      put-twice (e ∷ es) x y q =
          twice_case e es x y (R x e) refl q (put-twice es x y q)
          ∙ ap (λ r. match_ordering r (join x y ∷ e ∷ es) (join e (join x y) ∷ es) (e ∷ put R join es (join x y))) (sym (left x y e))

      -- a list in which one is joined with another that compares equal
      put-tied : (before after : List A) (x y : A) → AllApart R (before ++ x ∷ after) → AllApart R (before ++ join x y ∷ after) → R y x ≡ Equal
          → sorted R join (before ++ join x y ∷ after) ≡ put R join (sorted R join (before ++ x ∷ after)) y
      put-tied before after x y h k q =
          let one : (z : A) → IsPermutation (z ∷ (before ++ after)) (before ++ z ∷ after) = λ z. IsPermutation-sym (before ++ z ∷ after) (z ∷ (before ++ after)) (IsPermutation-middle before z after) in
          put-fresh (join x y) (before ++ after) (before ++ join x y ∷ after) (one (join x y)) k
          ∙ sym (put-twice (sorted R join (before ++ after)) x y q)
          ∙ ap (λ l. put R join l y) (sym (put-fresh x (before ++ after) (before ++ x ∷ after) (one x) h))

pub equal_from_level : (r : Ordering) → is_eq r ≡ true → r ≡ Equal
equal_from_level Less e = absurd (cc)
equal_from_level Equal e = refl
equal_from_level Greater e = absurd (cc)

-- ---- hashed maps
module _ {K X : Type 0} where
  -- the first entry whose key passes stands between others
  record Stands (test : K → Bool) (es : List (K × X)) (w v : X) : Type 0 where
    before : List (K × X)
    after : List (K × X)
    key : K
    passes : test key ≡ true
    was : es ≡ before ++ (key, w) ∷ after
    becomes : set_value test es v ≡ before ++ (key, v) ∷ after

  stands_case : (test : K → Bool) (e : K × X) (es : List (K × X)) (w v : X) (b : Bool) → test e.0 ≡ b → cond b (Some e.1) (lookup test es) ≡ Some w
      → (lookup test es ≡ Some w → Stands test es w v) → Stands test (e ∷ es) w v
  stands_case test e es w v true q p f =
      let same : e.1 ≡ w = cc in
      record {
        before = [];
        after = es;
        key = e.0;
        passes = q;
        was = λ i. (e.0, same i) ∷ es;
        becomes = ap (λ b. cond b ((e.0, v) ∷ es) (e ∷ set_value test es v)) q;
      }
  stands_case test e es w v false q p f =
      let t = f p in
      record {
        before = e ∷ t.before;
        after = t.after;
        key = t.key;
        passes = t.passes;
        was = ap (λ l. e ∷ l) t.was;
        becomes = ap (λ b. cond b ((e.0, v) ∷ es) (e ∷ set_value test es v)) q ∙ ap (λ l. e ∷ l) t.becomes;
      }

  stands : (test : K → Bool) (es : List (K × X)) (w v : X) → lookup test es ≡ Some w → Stands test es w v
  stands test [] w v p = absurd (cc)
  stands test (e ∷ es) w v p = stands_case test e es w v (test e.0) refl p (stands test es w v)

  abbrev new_value : K × X → K × X → K × X
  new_value e v = (e.0, v.1)

  module _ (cmp : K → K → Ordering) where
    abbrev by_key : K × X → K × X → Ordering
    by_key a b = cmp a.0 b.0

    entry-put : (es : List (K × X)) (k : K) (v : X) → insert_entry cmp es k v ≡ put by_key new_value es (k, v)
    entry-put [] k v = refl
    entry-put (e ∷ es) k v = ap (λ l. match_ordering (cmp k e.0) ((k, v) ∷ e ∷ es) ((e.0, v) ∷ es) (e ∷ l)) (entry-put es k v)

    entries-put_all : (others es : List (K × X)) → sort_onto cmp others es ≡ put_all by_key new_value others es
    entries-put_all others [] = refl
    entries-put_all others (e ∷ es) = entries-put_all (insert_entry cmp others e.0 e.1) es ∙ ap (λ l. put_all by_key new_value l es) (entry-put others e.0 e.1)

    module _ (o : IsTotalOrder cmp) (eq : K → K → Bool) (ties : (x y : K) → eq x y ≡ is_eq (cmp x y)) where
      entries_apart : (es : List (K × X)) → IsDistinct eq (keys_of es) → AllApart by_key es
      unfolding IsDistinct
      entries_apart [] h = tt
      entries_apart (e ∷ es) h = (each es h.0, entries_apart es h.1)
        where
          each : (ds : List (K × X)) → AllByRecursion (λ y. eq e.0 y ≡ false) (keys_of ds) → Apart by_key e ds
          each [] k = tt
          each (d ∷ ds) k = (sym (ties e.0 d.0) ∙ k.0, each ds k.1)

      total : IsTotalOrder by_key
      total = on_total (λ (e : K × X). e.0) o

      -- hashed maps that differ by the order of their entries alone mean the same
      sort_onto-permuted : (es fs : List (K × X)) → IsPermutation es fs → IsDistinct eq (keys_of es) → sort_onto cmp [] es ≡ sort_onto cmp [] fs
      sort_onto-permuted es fs p d = entries-put_all [] es ∙ sorted-permuted by_key total new_value es fs p (entries_apart es d) ∙ sym (entries-put_all [] fs)

      in_entries : (es fs : List (K × X)) (k : K) (v : X) → sorted by_key new_value fs ≡ put by_key new_value (sorted by_key new_value es) (k, v) → sort_onto cmp [] fs ≡ insert_entry cmp (sort_onto cmp [] es) k v
      in_entries es fs k v h = entries-put_all [] fs ∙ h ∙ ap (λ l. put by_key new_value l (k, v)) (sym (entries-put_all [] es)) ∙ sym (entry-put (sort_onto cmp [] es) k v)

      -- the entries fs after k was inserted with v, where es had `old` at k
      pub inserted_entry : (es fs : List (K × X)) (k : K) (v : X) (old : Option X) → IsDistinct eq (keys_of es) → IsDistinct eq (keys_of fs) → old ≡ lookup (eq k) es
          → MatchOption old (IsPermutation ((k, v) ∷ es) fs) (λ _. fs ≡ set_value (eq k) es v) → sort_onto cmp [] fs ≡ insert_entry cmp (sort_onto cmp [] es) k v
      inserted_entry es fs k v None d g p m = in_entries es fs k v (put-fresh by_key total new_value (k, v) es fs m (entries_apart fs g))
      inserted_entry es fs k v (Some w) d g p m =
          let s = stands (eq k) es w v (sym p) in
          let becomes = m ∙ s.becomes in
          let tied : cmp k s.key ≡ Equal = equal_from_level (cmp k s.key) (sym (ties k s.key) ∙ s.passes) in
          in_entries es fs k v
          (ap (sorted by_key new_value) becomes
          ∙ put-tied by_key total new_value (λ a b c. refl) (λ a b c. refl) s.before s.after (s.key, w) (k, v)
          (subst (AllApart by_key) s.was (entries_apart es d)) (subst (AllApart by_key) becomes (entries_apart fs g)) tied
          ∙ ap (λ l. put by_key new_value (sorted by_key new_value l) (k, v)) (sym s.was))

-- ---- hashed sets
module _ {K : Type 0} where
  -- a key that passes stands between others
  record StandsKey (test : K → Bool) (ks : List K) : Type 0 where
    before : List K
    after : List K
    key : K
    passes : test key ≡ true
    was : ks ≡ before ++ key ∷ after

  stands_key_case : (test : K → Bool) (k : K) (ks : List K) (b : Bool) → test k ≡ b → (b || list_any test ks) ≡ true → (list_any test ks ≡ true → StandsKey test ks) → StandsKey test (k ∷ ks)
  stands_key_case test k ks true q p f = record { before = []; after = ks; key = k; passes = q; was = refl }
  stands_key_case test k ks false q p f =
      let t = f p in
      record { before = k ∷ t.before; after = t.after; key = t.key; passes = t.passes; was = ap (λ l. k ∷ l) t.was }

  stands_key : (test : K → Bool) (ks : List K) → list_any test ks ≡ true → StandsKey test ks
  stands_key test [] p = absurd (cc)
  stands_key test (k ∷ ks) p = stands_key_case test k ks (test k) refl p (stands_key test ks)

  abbrev key_stays : K → K → K
  key_stays e v = e

  module _ (cmp : K → K → Ordering) where
    key-put : (ks : List K) (k : K) → insert_key cmp ks k ≡ put cmp key_stays ks k
    key-put [] k = refl
    key-put (x ∷ xs) k = ap (λ l. match_ordering (cmp k x) (k ∷ x ∷ xs) (x ∷ xs) (x ∷ l)) (key-put xs k)

    keys-put_all : (others ks : List K) → sort_keys_onto cmp others ks ≡ put_all cmp key_stays others ks
    keys-put_all others [] = refl
    keys-put_all others (k ∷ ks) = keys-put_all (insert_key cmp others k) ks ∙ ap (λ l. put_all cmp key_stays l ks) (key-put others k)

    module _ (o : IsTotalOrder cmp) (eq : K → K → Bool) (ties : (x y : K) → eq x y ≡ is_eq (cmp x y)) where
      keys_apart : (ks : List K) → IsDistinct eq ks → AllApart cmp ks
      unfolding IsDistinct
      keys_apart [] h = tt
      keys_apart (k ∷ ks) h = (each ks h.0, keys_apart ks h.1)
        where
          each : (ds : List K) → AllByRecursion (λ y. eq k y ≡ false) ds → Apart cmp k ds
          each [] n = tt
          each (d ∷ ds) n = (sym (ties k d) ∙ n.0, each ds n.1)

      -- hashed sets that differ by the order of their keys alone mean the same
      sort_keys_onto-permuted : (ks ls : List K) → IsPermutation ks ls → IsDistinct eq ks → sort_keys_onto cmp [] ks ≡ sort_keys_onto cmp [] ls
      sort_keys_onto-permuted ks ls p d = keys-put_all [] ks ∙ sorted-permuted cmp o key_stays ks ls p (keys_apart ks d) ∙ sym (keys-put_all [] ls)

      in_keys : (ks ls : List K) (k : K) → sorted cmp key_stays ls ≡ put cmp key_stays (sorted cmp key_stays ks) k → sort_keys_onto cmp [] ls ≡ insert_key cmp (sort_keys_onto cmp [] ks) k
      in_keys ks ls k h = keys-put_all [] ls ∙ h ∙ ap (λ l. put cmp key_stays l k) (sym (keys-put_all [] ks)) ∙ sym (key-put (sort_keys_onto cmp [] ks) k)

      had : (b : Bool) → false ≡ not b → b ≡ true
      had true e = refl
      had false e = absurd (cc)

      -- the keys ls after k was inserted into ks
      pub inserted_key : (ks ls : List K) (k : K) (added : Bool) → IsDistinct eq ks → IsDistinct eq ls → added ≡ not (list_any (eq k) ks) → MatchBool added (IsPermutation (k ∷ ks) ls) (ls ≡ ks)
          → sort_keys_onto cmp [] ls ≡ insert_key cmp (sort_keys_onto cmp [] ks) k
      inserted_key ks ls k true d g p m = in_keys ks ls k (put-fresh cmp o key_stays k ks ls m (keys_apart ls g))
      inserted_key ks ls k false d g p m =
          let s = stands_key (eq k) ks (had (list_any (eq k) ks) p) in
          let tied : cmp k s.key ≡ Equal = equal_from_level (cmp k s.key) (sym (ties k s.key) ∙ s.passes) in
          let a = subst (AllApart cmp) s.was (keys_apart ks d) in
          in_keys ks ls k
          (ap (sorted cmp key_stays) (m ∙ s.was)
          ∙ put-tied cmp o key_stays (λ x y z. refl) (λ x y z. refl) s.before s.after s.key k a a tied
          ∙ ap (λ l. put cmp key_stays (sorted cmp key_stays l) k) (sym s.was))
