-- Parts that are put in one after another make the list, or the map.
use Rattle.std.proofs.Common.{◌≡◌, Bool, List, [], ◌∷◌, map, true, false, Result, Ok, Err, refl, ap, sym, subst, ◌∙◌}
use Rattle.std.specs.Result.{IsErrAnd}
use Rattle.sw_tree.specs.Building.{puts, within, with_put, IsBuilt, IsPut, BuildsLists, BuildsMaps}
use Rattle.sw_tree.specs.Meaning.{Meaning, meanings, parts}
use Rattle.sw_tree.specs.Meant.{list_meaning, pair_meaning}
use Rattle.sw_tree.specs.Mode.{at_value}
use Rattle.sw_tree.specs.Placed.{pair_of}
use Rattle.sw_tree.specs.Steps.{bind, traverse}
use Rattle.sw_tree.specs.Tree.{Tree, trees, list, entries, by_turns, map as node_map}
use Rattle.sw_tree.specs.declared.mode.Mode.{Mode}
use Rattle.sw_tree.specs.declared.fail.SerError.{SerError}
use Rattle.sw_tree.specs.declared.fail.SerFail.{SerFail}
use Rattle.sw_tree.specs.declared.fail.SerFail.TheVariants as ser
use Rattle.sw_elem.specs.Equations.{Writes}
use Rattle.sw_core.specs.Entries.{pair_writes}
use Rattle.sw_core.specs.Inner.Putting.{all_put, all_put_pairs}
use Rattle.sw_core.specs.Vec.{list_writes}

-- ---- lists

values : {T : Type 0} (w : Meaning → Result Tree SerError) (f : T → Meaning) (xs : List T) → traverse w (parts (meanings (map f xs))) ≡ traverse (λ x. w (f x)) xs
values w f [] = refl
values w f (x ∷ xs) = rw (values w f xs) refl

pub not_put : {S : Type 0} (put : Tree → S → S) (s old : S) (x : Result (List Tree) SerError) (e : SerError) → bind x (λ ts. Ok (puts put ts s)) ≡ Err e → with_put put (bind x (λ ts. within (list (trees ts)))) old ≡ Err e
not_put put s old (Ok ts) e h = absurd (cc)
not_put put s old (Err d) e h = let same : d ≡ e = cc in ap (λ (z : SerError). Err z) same

pub closed_on : {S : Type 0} (put : Tree → S → S) (closed : S → Result S SerError) (s old now : S) (x : Result (List Tree) SerError) → ((ts : List Tree) → closed (puts put ts s) ≡ with_put put (within (list (trees ts))) old) →
    bind x (λ ts. Ok (puts put ts s)) ≡ Ok now → closed now ≡ with_put put (bind x (λ ts. within (list (trees ts)))) old
closed_on put closed s old now (Ok ts) lists h = let same : puts put ts s ≡ now = cc in ap closed (sym same) ∙ lists ts
closed_on put closed s old now (Err d) lists h = absurd (cc)

module _ {S T : Type 0} (put : Tree → S → S) (w : Writes) (f : T → Meaning) (m : Mode) where
  -- the values are put in one by one
  abbrev pub put_values : List T → S → Result S SerError
  put_values xs s = all_put put (λ x. w (at_value m) (f x)) xs s

  refused_on : (xs : List T) (s old new : S) (e : SerFail) → IsBuilt (Err e) (put_values xs s) new → IsPut put (Err e) (list_writes w m (list_meaning f xs)) old new
  refused_on xs s old new (ser.Unwritable e) h = rw (values (w (at_value m)) f xs) (not_put put s old (traverse (λ x. w (at_value m) (f x)) xs) e h)
  refused_on xs s old new ser.Memory h = tt

  -- why parts aren't put in is why the list isn't
  pub list_refused : (xs : List T) (s old new : S) (x : Result (Unit {0}) SerFail) (e : SerFail) → IsErrAnd x (λ d. d ≡ e) → IsBuilt (Err e) (put_values xs s) new → IsPut put x (list_writes w m (list_meaning f xs)) old new
  list_refused xs s old new (Ok u) e k h = absurd k
  list_refused xs s old new (Err d) e k h = refused_on xs s old new d (subst (λ (z : SerFail). IsBuilt (Err z) (put_values xs s) new) (sym k) h)

  -- what is opened, filled and closed is put in whole
  pub list_closed : (opened : Bool → S → S) (closed : S → Result S SerError) → BuildsLists put opened closed → (xs : List T) (old s now new : S) (x : Result (Unit {0}) SerFail) →
      ◌≡◌ {A = Result S SerError} (Ok (opened false old)) (Ok s) → put_values xs s ≡ Ok now → IsBuilt x (closed now) new → IsPut put x (list_writes w m (list_meaning f xs)) old new
  list_closed opened closed lists xs old s now new x i h k =
      let same : opened false old ≡ s = cc in
      let filled : put_values xs (opened false old) ≡ Ok now = rw same h in
      subst (λ r. IsBuilt x r new) (rw (values (w (at_value m)) f xs) (closed_on put closed (opened false old) old now (traverse (λ x. w (at_value m) (f x)) xs) (lists old) filled)) k

-- ---- maps

pairs : {A B : Type 0} (k w : Meaning → Result Tree SerError) (f : A → Meaning) (g : B → Meaning) (xs : List (A × B)) →
    traverse (pair_writes k w) (parts (meanings (map (pair_meaning f g) xs))) ≡ traverse (pair_of (λ x. k (f x)) (λ y. w (g y))) xs
pairs k w f g [] = refl
pairs k w f g (x ∷ xs) = rw (pairs k w f g xs) refl

-- a map that has been opened is written pair by pair
pub map_opened : {S A B : Type 0} (put : Tree → S → S) (k w : Meaning → Result Tree SerError) (f : A → Meaning) (g : B → Meaning) (xs : List (A × B)) (s t : S) → ◌≡◌ {A = Result S SerError} (Ok s) (Ok t) →
    all_put_pairs put (pair_writes k w) (parts (meanings (map (pair_meaning f g) xs))) s ≡ all_put_pairs put (pair_of (λ x. k (f x)) (λ y. w (g y))) xs t
map_opened put k w f g xs s t e = let same : s ≡ t = cc in rw (pairs k w f g xs, same) refl

map_on : {S : Type 0} (put : Tree → S → S) (closed : S → Result S SerError) (s old now : S) (x : Result (List (Tree × Tree)) SerError) → ((es : List (Tree × Tree)) → closed (puts put (by_turns es) s) ≡ with_put put (within (node_map (entries es))) old) →
    bind x (λ es. Ok (puts put (by_turns es) s)) ≡ Ok now → closed now ≡ with_put put (bind x (λ es. within (node_map (entries es)))) old
map_on put closed s old now (Ok es) maps h = let same : puts put (by_turns es) s ≡ now = cc in ap closed (sym same) ∙ maps es
map_on put closed s old now (Err d) maps h = absurd (cc)

module _ {S : Type 0} (put : Tree → S → S) where
  -- what is opened, filled until none is left, and closed is put in whole
  pub map_closed : (opened : Bool → S → S) (closed : S → Result S SerError) → BuildsMaps put opened closed → {X : Type 0} (f : Meaning → Result (Tree × Tree) SerError) (vs : List Meaning) (h : X → Result (Tree × Tree) SerError) (xs : List X)
      (old now new : S) (x : Result (Unit {0}) SerFail) → all_put_pairs put f vs (opened true old) ≡ all_put_pairs put h xs now → xs ≡ [] → IsBuilt x (closed now) new → IsPut put x (bind (traverse f vs) (λ es. within (node_map (entries es)))) old new
  map_closed opened closed maps f vs h xs old now new x p q k =
      subst (λ r. IsBuilt x r new) (map_on put closed (opened true old) old now (traverse f vs) (maps old) (p ∙ ap (λ l. all_put_pairs put h l now) q)) k

  -- a key and its value that are put in are the one pair
  pub pair_put : (x y : Result Tree SerError) (o s t u : S) → ◌≡◌ {A = Result S SerError} (Ok o) (Ok s) → bind x (λ a. Ok (put a s)) ≡ Ok t → bind y (λ b. Ok (put b t)) ≡ Ok u →
      bind (bind (bind x (λ a. bind y (λ b. Ok (a, b)))) (λ e. Ok (e ∷ []))) (λ es. Ok (puts put (by_turns es) o)) ≡ Ok u
  pair_put (Ok a) (Ok b) o s t u i p q =
      let begun : o ≡ s = cc in
      let first : put a s ≡ t = cc in
      let second : put b t ≡ u = cc in
      ap (λ (z : S). Ok z) (ap (λ z. put b (put a z)) begun ∙ ap (put b) first ∙ second)
  pair_put (Ok a) (Err d) o s t u i p q = absurd (cc)
  pair_put (Err d) y o s t u i p q = absurd (cc)
