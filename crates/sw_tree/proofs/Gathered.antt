-- What holds of each item so far holds with one more, and of two lists of each of both together.
use Rattle.std.proofs.Common.{List, [], ◌∷◌, ◌++◌, map}
use Rattle.sw_tree.specs.Steps.{Each}

pub Each-push : {T M : Type 0} (f : T → M) (P : M → Type 0) (xs : List T) (x : T) → Each P (map f xs) → P (f x) → Each P (map f (xs ++ x ∷ []))
Each-push f P [] x h p = (p, tt)
Each-push f P (y ∷ xs) x h p = (h.0, Each-push f P xs x h.1 p)

pub Each-append : {T M : Type 0} (f : T → M) (P : M → Type 0) (xs ys : List T) → Each P (map f xs) → Each P (map f ys) → Each P (map f (xs ++ ys))
Each-append f P [] ys h k = k
Each-append f P (x ∷ xs) ys h k = (h.0, Each-append f P xs ys h.1 k)

-- where each is got from something by g
pub Each-through : {S T M : Type 0} (f : T → M) (g : S → T) (P : M → Type 0) (rs : List S) → Each P (map (λ r. f (g r)) rs) → Each P (map f (map g rs))
Each-through f g P [] h = tt
Each-through f g P (r ∷ rs) h = (h.0, Each-through f g P rs h.1)
