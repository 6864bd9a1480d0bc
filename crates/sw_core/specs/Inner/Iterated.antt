-- What an iterator gives: the values of a list, one after another.
use Rattle.std.specs.Prelude.{◌≡◌, List, [], ◌∷◌, MatchOption, Option, None}

module _ {S A X : Type 0} (shows : A → X) (gives : S → Option A → S → Type 0) where
  -- each call shows the next of these, and the one behind the last gives none
  abbrev pub Iterates : List X → S → Type 0
  Iterates [] s = (r : Option A) (t : S) → gives s r t → r ≡ None
  Iterates (x ∷ xs) s = (r : Option A) (t : S) → gives s r t → MatchOption r ⊥ (λ a. (shows a ≡ x) × Iterates xs t)
