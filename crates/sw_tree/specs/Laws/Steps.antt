-- What steps made where none refused, and the lists of what may be nothing.
use Rattle.std.specs.Prelude.{◌≡◌, Result, Ok, Err, List, ◌∷◌, Option, Some, None, []}
use Rattle.std.proofs.Common.{refl}
use Rattle.sw_tree.specs.Steps.{bind}

module _ {A B E : Type 0} where
  pub bind_ok : (r : Result A E) (f : A → Result B E) (y : B) → bind r f ≡ Ok y → (x : A) × (r ≡ Ok x) × (f x ≡ Ok y)
  bind_ok (Ok x) f y p = (x, refl, p)
  bind_ok (Err e) f y p = absurd (cc)

abbrev pub option_cons : {B : Type 0} → Option B → Option (List B) → Option (List B)
option_cons (Some y) (Some ys) = Some (y ∷ ys)
option_cons (Some y) None = None
option_cons None r = None

module _ {A B : Type 0} (f : A → Option B) where
  abbrev pub option_traverse : List A → Option (List B)
  option_traverse [] = Some []
  option_traverse (x ∷ xs) = option_cons (f x) (option_traverse xs)

pub option_traverse-Some : {A : Type 0} (xs : List A) → option_traverse Some xs ≡ Some xs
option_traverse-Some [] = refl
option_traverse-Some (x ∷ xs) = rw (option_traverse-Some xs)
