-- Pairs that an iterator lends: they are put in one after another, and make the map.
use Rattle.std.proofs.Common.{◌≡◌, Bool, List, [], ◌∷◌, map, true, Option, Some, None, Result, Ok, Err, Bor, refl, ap, sym, subst, ◌∙◌}
use Rattle.std.specs.Map.Iter.{deref}
use Rattle.std.specs.Result.{IsErrAnd}
use Rattle.sw_tree.specs.Building.{puts, within, with_put, IsBuilt, IsPut, BuildsMaps}
use Rattle.sw_tree.specs.Meaning.{Meaning, meanings, parts}
use Rattle.sw_tree.specs.Meant.{list_meaning, pair_meaning}
use Rattle.sw_tree.specs.Mode.{at_key, at_value}
use Rattle.sw_tree.specs.Placed.{pair_of}
use Rattle.sw_tree.specs.Steps.{bind, traverse}
use Rattle.sw_tree.specs.Tree.{Tree, entries, by_turns, map as node_map}
use Rattle.sw_tree.specs.declared.mode.Mode.{Mode}
use Rattle.sw_tree.specs.declared.fail.SerError.{SerError}
use Rattle.sw_tree.specs.declared.fail.SerFail.{SerFail}
use Rattle.sw_tree.specs.declared.fail.SerFail.TheVariants as ser
use Rattle.sw_elem.specs.Equations.{Writes}
use Rattle.sw_core.specs.Entries.{pair_writes, entries_writes}
use Rattle.sw_core.specs.Inner.Iterated.{Iterates}
use Rattle.sw_core.specs.Inner.Putting.{all_put_pairs}
use Rattle.sw_core.specs.Laws.Iterated.{IsLeft}
use Rattle.sw_core.specs.Laws.Putting.{map_opened, map_closed}

-- ---- one pair

module _ {B : Type 0} (put : Tree → B → B) (out : B) where
  -- the key's tree is put in, then the value's
  abbrev pair_built : Result (Tree × Tree) SerError → Result B SerError
  pair_built a = bind (bind a (λ e. Ok (e ∷ []))) (λ es. Ok (puts put (by_turns es) out))

  -- one that is put in comes off the front
  one_put : (a : Result (Tree × Tree) SerError) (b : Result (List (Tree × Tree)) SerError) (now : B) → pair_built a ≡ Ok now →
      bind (bind a (λ e. bind b (λ es. Ok (e ∷ es)))) (λ es. Ok (puts put (by_turns es) out)) ≡ bind b (λ es. Ok (puts put (by_turns es) now))
  one_put (Ok e) (Ok es) now p = let same : put e.1 (put e.0 out) ≡ now = cc in ap (λ s. Ok (puts put (by_turns es) s)) same
  one_put (Ok e) (Err d) now p = refl
  one_put (Err d) b now p = absurd (cc)

  one_refused : (a : Result (Tree × Tree) SerError) (b : Result (List (Tree × Tree)) SerError) (e : SerError) → pair_built a ≡ Err e →
      ◌≡◌ {A = Result B SerError} (bind (bind a (λ e. bind b (λ es. Ok (e ∷ es)))) (λ es. Ok (puts put (by_turns es) out))) (Err e)
  one_refused (Ok t) b e p = absurd (cc)
  one_refused (Err d) b e p = cc

-- ---- those that are still to come

module _ {S X B : Type 0} (gives : S → Option (Bor X) → S → Type 0) (put : Tree → B → B) (f : X → Result (Tree × Tree) SerError) (whole : Result B SerError) where
  -- what is built by now, with what is to come
  abbrev pub PairsLeft : B → S → Type 0
  PairsLeft out at = IsLeft deref gives whole (λ xs. all_put_pairs put f xs out) at

  module _ (out : B) (at next : S) (a : Bor X) (g : gives at (Some a) next) where
    take_next : (now : B) (xs : List X) → Iterates deref gives xs at → whole ≡ all_put_pairs put f xs out → all_put_pairs put f (a.now ∷ []) out ≡ Ok now → PairsLeft now next
    take_next now [] c e p = let n : Some a ≡ None = c (Some a) next g in absurd (cc)
    take_next now (x ∷ xs) c e p =
        let n = c (Some a) next g in
        record { left = xs; comes = n.1; same = e ∙ one_put put out (f x) (traverse f xs) now (rw n.0 at p) }

    pub pair_next : (now : B) → PairsLeft out at → all_put_pairs put f (a.now ∷ []) out ≡ Ok now → PairsLeft now next
    pair_next now h p = take_next now h.left h.comes h.same p

    take_refused : (e : SerError) (xs : List X) → Iterates deref gives xs at → whole ≡ all_put_pairs put f xs out → all_put_pairs put f (a.now ∷ []) out ≡ Err e → whole ≡ Err e
    take_refused e [] c h p = let n : Some a ≡ None = c (Some a) next g in absurd (cc)
    take_refused e (x ∷ xs) c h p = h ∙ one_refused put out (f x) (traverse f xs) e (rw (c (Some a) next g).0 at p)

    refused_as : (e : SerFail) (new : B) → PairsLeft out at → IsBuilt (Err e) (all_put_pairs put f (a.now ∷ []) out) new → IsBuilt (Err e) whole new
    refused_as (ser.Unwritable e) new h p = take_refused e h.left h.comes h.same p
    refused_as ser.Memory new h p = tt

    -- why one isn't put in is why they aren't
    pub pair_refused : (x : Result (Unit {0}) SerFail) (e : SerFail) (new : B) → PairsLeft out at → IsErrAnd x (λ d. d ≡ e) → IsBuilt (Err e) (all_put_pairs put f (a.now ∷ []) out) new → IsBuilt x whole new
    pair_refused (Ok u) e new h k p = absurd k
    pair_refused (Err d) e new h k p = refused_as d new h (subst (λ (z : SerFail). IsBuilt (Err z) (all_put_pairs put f (a.now ∷ []) out) new) (sym k) p)

  take_last : (out : B) (at next : S) (xs : List X) → Iterates deref gives xs at → whole ≡ all_put_pairs put f xs out → gives at None next → whole ≡ Ok out
  take_last out at next [] c e g = e
  take_last out at next (x ∷ xs) c e g = absurd (c None next g)

  -- all are put in where no more come
  pub pairs_last : (out : B) (at next : S) → PairsLeft out at → gives at None next → whole ≡ Ok out
  pairs_last out at next h g = take_last out at next h.left h.comes h.same g

-- ---- the map

not_put : {S : Type 0} (put : Tree → S → S) (s old : S) (x : Result (List (Tree × Tree)) SerError) (e : SerError) → bind x (λ es. Ok (puts put (by_turns es) s)) ≡ Err e →
    with_put put (bind x (λ es. within (node_map (entries es)))) old ≡ Err e
not_put put s old (Ok es) e h = absurd (cc)
not_put put s old (Err d) e h = let same : d ≡ e = cc in ap (λ (z : SerError). Err z) same

module _ {S A C : Type 0} (put : Tree → S → S) (k w : Writes) (f : A → Meaning) (g : C → Meaning) (m : Mode) (opened : Bool → S → S) (xs : List (A × C)) (old s : S) (begun : ◌≡◌ {A = Result S SerError} (Ok (opened true old)) (Ok s)) where
  -- the pairs are put in one by one
  abbrev pub put_pairs : Result S SerError
  put_pairs = all_put_pairs put (pair_of (λ x. k (at_key m) (f x)) (λ y. w (at_value m) (g y))) xs s

  abbrev whole : Result Tree SerError
  whole = entries_writes k w m (list_meaning (pair_meaning f g) xs)

  same : all_put_pairs put (pair_writes (k (at_key m)) (w (at_value m))) (parts (meanings (map (pair_meaning f g) xs))) (opened true old) ≡ put_pairs
  same = map_opened put (k (at_key m)) (w (at_value m)) f g xs (opened true old) s begun

  refused_on : (new : S) (e : SerFail) → IsBuilt (Err e) put_pairs new → IsPut put (Err e) whole old new
  refused_on new (ser.Unwritable e) h = not_put put (opened true old) old (traverse (pair_writes (k (at_key m)) (w (at_value m))) (parts (meanings (map (pair_meaning f g) xs)))) e (same ∙ h)
  refused_on new ser.Memory h = tt

  -- why pairs aren't put in is why the map isn't
  pub pairs_refused : (new : S) (x : Result (Unit {0}) SerFail) (e : SerFail) → IsErrAnd x (λ d. d ≡ e) → IsBuilt (Err e) put_pairs new → IsPut put x whole old new
  pairs_refused new (Ok u) e q h = absurd q
  pairs_refused new (Err d) e q h = refused_on new d (subst (λ (z : SerFail). IsBuilt (Err z) put_pairs new) (sym q) h)

  -- what is opened, filled and closed is put in whole
  pub pairs_closed : (closed : S → Result S SerError) → BuildsMaps put opened closed → (now new : S) (x : Result (Unit {0}) SerFail) → put_pairs ≡ Ok now → IsBuilt x (closed now) new → IsPut put x whole old new
  pairs_closed closed maps now new x h q =
      map_closed put opened closed maps (pair_writes (k (at_key m)) (w (at_value m))) (parts (meanings (map (pair_meaning f g) xs))) (pair_of (λ x. k (at_key m) (f x)) (λ y. w (at_value m) (g y))) [] old now new x (same ∙ h) refl q
