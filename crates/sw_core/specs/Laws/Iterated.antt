-- What is put in while an iterator gives the values, and which values std's iterators give.
use Rattle.std.proofs.Common.{◌≡◌, List, [], ◌∷◌, ◌++◌, append_assoc, append-nil, length, map, MatchOption, Option, Some, None, Result, Ok, Err, Bor, refl, ap, sym, subst, ◌∙◌}
use Rattle.std.proofs.lemmas.List.{nil_from_length}
use Rattle.std.specs.Map.Iter.{TakesFirst, deref}
use Rattle.std.specs.Result.{IsErrAnd}
use Rattle.sw_tree.specs.Building.{puts, IsBuilt}
use Rattle.sw_tree.specs.Steps.{bind, traverse}
use Rattle.sw_tree.specs.Tree.{Tree}
use Rattle.sw_tree.specs.declared.fail.SerError.{SerError}
use Rattle.sw_tree.specs.declared.fail.SerFail.{SerFail}
use Rattle.sw_tree.specs.declared.fail.SerFail.TheVariants as ser
use Rattle.sw_core.specs.Inner.Iterated.{Iterates}
use Rattle.sw_core.specs.Inner.Putting.{all_put}

-- ---- what is left to come

-- the values that are still to come make the whole
pub record IsLeft {S A X R : Type 0} (shows : A → X) (gives : S → Option A → S → Type 0) (whole : R) (made : List X → R) (at : S) : Type 0 where
  pub left : List X
  pub comes : Iterates shows gives left at
  pub same : whole ≡ made left

-- one that is put in comes off the front
one_put : {S : Type 0} (put : Tree → S → S) (a : Result Tree SerError) (b : Result (List Tree) SerError) (out now : S) → bind a (λ t. Ok (put t out)) ≡ Ok now →
    bind (bind a (λ t. bind b (λ ts. Ok (t ∷ ts)))) (λ ts. Ok (puts put ts out)) ≡ bind b (λ ts. Ok (puts put ts now))
one_put put (Ok t) (Ok ts) out now e = let same : put t out ≡ now = cc in rw same refl
one_put put (Ok t) (Err d) out now e = refl
one_put put (Err d) b out now e = absurd (cc)

one_refused : {S : Type 0} (put : Tree → S → S) (a : Result Tree SerError) (b : Result (List Tree) SerError) (out : S) (e : SerError) → bind a (λ t. Ok (put t out)) ≡ Err e →
    ◌≡◌ {A = Result S SerError} (bind (bind a (λ t. bind b (λ ts. Ok (t ∷ ts)))) (λ ts. Ok (puts put ts out))) (Err e)
one_refused put (Ok t) b out e p = absurd (cc)
one_refused put (Err d) b out e p = cc

module _ {S A X B : Type 0} (shows : A → X) (gives : S → Option A → S → Type 0) (put : Tree → B → B) (f : X → Result Tree SerError) (whole : Result B SerError) where
  -- what is built by now, with what is to come
  abbrev pub Left : B → S → Type 0
  Left out at = IsLeft shows gives whole (λ xs. all_put put f xs out) at

  module _ (out : B) (at next : S) (a : A) (g : gives at (Some a) next) where
    take_next : (now : B) (xs : List X) → Iterates shows gives xs at → whole ≡ all_put put f xs out → bind (f (shows a)) (λ t. Ok (put t out)) ≡ Ok now → Left now next
    take_next now [] c e p = let n : Some a ≡ None = c (Some a) next g in absurd (cc)
    take_next now (x ∷ xs) c e p =
        let n = c (Some a) next g in
        record { left = xs; comes = n.1; same = e ∙ one_put put (f x) (traverse f xs) out now (rw n.0 at p) }

    pub put_next : (now : B) → Left out at → bind (f (shows a)) (λ t. Ok (put t out)) ≡ Ok now → Left now next
    put_next now h p = take_next now h.left h.comes h.same p

    take_refused : (e : SerError) (xs : List X) → Iterates shows gives xs at → whole ≡ all_put put f xs out → bind (f (shows a)) (λ t. Ok (put t out)) ≡ Err e → whole ≡ Err e
    take_refused e [] c h p = let n : Some a ≡ None = c (Some a) next g in absurd (cc)
    take_refused e (x ∷ xs) c h p = h ∙ one_refused put (f x) (traverse f xs) out e (rw (c (Some a) next g).0 at p)

    refused_as : (e : SerFail) (new : B) → Left out at → IsBuilt (Err e) (bind (f (shows a)) (λ t. Ok (put t out))) new → IsBuilt (Err e) whole new
    refused_as (ser.Unwritable e) new h p = take_refused e h.left h.comes h.same p
    refused_as ser.Memory new h p = tt

    -- why one isn't put in is why they aren't
    pub put_refused : (x : Result (Unit {0}) SerFail) (e : SerFail) (new : B) → Left out at → IsErrAnd x (λ d. d ≡ e) → IsBuilt (Err e) (bind (f (shows a)) (λ t. Ok (put t out))) new → IsBuilt x whole new
    put_refused (Ok u) e new h k p = absurd k
    put_refused (Err d) e new h k p = refused_as d new h (subst (λ (z : SerFail). IsBuilt (Err z) (bind (f (shows a)) (λ t. Ok (put t out))) new) (sym k) p)

  take_last : (out : B) (at next : S) (xs : List X) → Iterates shows gives xs at → whole ≡ all_put put f xs out → gives at None next → whole ≡ Ok out
  take_last out at next [] c e g = e
  take_last out at next (x ∷ xs) c e g = absurd (c None next g)

  -- all are put in where no more come
  pub put_last : (out : B) (at next : S) → Left out at → gives at None next → whole ≡ Ok out
  put_last out at next h g = take_last out at next h.left h.comes h.same g

-- ---- the iterators of std

module _ {S A X : Type 0} (shows : A → X) (gives : S → Option A → S → Type 0) (rest : S → List X) where
  -- a call shows the first of what was left and leaves the others, or nothing was left
  abbrev ShowsFirst : S → Option A → S → Type 0
  ShowsFirst s r t = MatchOption r (rest s ≡ []) (λ a. rest s ≡ shows a ∷ rest t)

  none_left : (s t : S) (r : Option A) → rest s ≡ [] → ShowsFirst s r t → r ≡ None
  none_left s t None e h = refl
  none_left s t (Some a) e h = let n : [] ≡ shows a ∷ rest t = sym e ∙ h in absurd (cc)

  one_left : (x : X) (xs : List X) (s t : S) (r : Option A) → rest s ≡ x ∷ xs → ShowsFirst s r t → ((u : S) → rest u ≡ xs → Iterates shows gives xs u) → MatchOption r ⊥ (λ a. (shows a ≡ x) × Iterates shows gives xs t)
  one_left x xs s t None e h later = let n : [] ≡ x ∷ xs = sym h ∙ e in absurd (cc)
  one_left x xs s t (Some a) e h later =
      let n : shows a ∷ rest t ≡ x ∷ xs = sym h ∙ e in
      (cc, later t (cc))

  iterates : ((s : S) (r : Option A) (t : S) → gives s r t → ShowsFirst s r t) → (xs : List X) (s : S) → rest s ≡ xs → Iterates shows gives xs s
  iterates steps [] s e = λ r t g. none_left s t r e (steps s r t g)
  iterates steps (x ∷ xs) s e = λ r t g. one_left x xs s t r e (steps s r t g) (iterates steps xs)

-- one whose state is the list of what is left
pub list_iterates : {A X : Type 0} (shows : A → X) (xs : List X) (s : List X) → s ≡ xs → Iterates shows (TakesFirst shows) xs s
list_iterates {A} {X} shows = iterates shows (TakesFirst shows) (λ s. s) steps
  where
    steps : (s : List X) (r : Option A) (t : List X) → TakesFirst shows s r t → ShowsFirst shows (TakesFirst shows) (λ u. u) s r t
    steps s None t g = g.0
    steps s (Some a) t g = g

-- one whose state is the list of what is left, itself lent
pub lent_iterates : {A X : Type 0} (shows : A → X) (xs : List X) (s : List A) → map shows s ≡ xs → Iterates shows (TakesFirst (λ (x : A). x)) xs s
lent_iterates {A} {X} shows = iterates shows (TakesFirst (λ (x : A). x)) (map shows) steps
  where
    steps : (s : List A) (r : Option A) (t : List A) → TakesFirst (λ (x : A). x) s r t → ShowsFirst shows (TakesFirst (λ (x : A). x)) (map shows) s r t
    steps s None t g = ap (map shows) g.0
    steps s (Some a) t g = ap (map shows) g

module _ {S X : Type 0} (rest : S → List X) where
  -- one that leaves its state as it is where nothing is left, as those over slices and queues
  abbrev StaysThen : S → Option (Bor X) → S → Type 0
  StaysThen s r t = MatchOption r ((length (rest s) ≡ 0) × (t ≡ s)) (λ a. rest s ≡ a.now ∷ rest t)

  stays_steps : (s : S) (r : Option (Bor X)) (t : S) → StaysThen s r t → ShowsFirst deref StaysThen rest s r t
  stays_steps s None t g = nil_from_length (rest s) g.0
  stays_steps s (Some a) t g = g

  pub rest_iterates : (xs : List X) (s : S) → rest s ≡ xs → Iterates deref StaysThen xs s
  rest_iterates = iterates deref StaysThen rest stays_steps

-- ---- values that go to the end of a list in turn

pub pushed : {A : Type 0} (old new all rest later : List A) (x : A) → all ≡ old ++ rest → rest ≡ x ∷ later → new ≡ old ++ x ∷ [] → all ≡ new ++ later
pushed old new all rest later x h k e = h ∙ ap (λ l. old ++ l) k ∙ sym (append_assoc old (x ∷ []) later) ∙ ap (λ l. l ++ later) (sym e)

pub all_pushed : {A : Type 0} (old all rest : List A) → all ≡ old ++ rest → rest ≡ [] → old ≡ all
all_pushed old all rest h k = sym (append-nil old) ∙ ap (λ l. old ++ l) (sym k) ∙ sym h
