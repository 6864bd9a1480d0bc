-- What holds of each of a list and of each of another holds of each of both.
use Rattle.std.specs.Prelude.{List, [], ◌∷◌, ◌++◌, cond, Bool, true, false}
use Rattle.sw_tree.specs.Steps.{Each}

module _ {A : Type 0} (P : A → Type 0) where
  pub each_append : (xs ys : List A) → Each P xs → Each P ys → Each P (xs ++ ys)
  each_append [] ys h k = k
  each_append (x ∷ xs) ys h k = (h.0, each_append xs ys h.1 k)

  pub each_end : (xs : List A) (y : A) → Each P xs → P y → Each P (xs ++ y ∷ [])
  each_end xs y h k = each_append xs (y ∷ []) h (k, tt)

  pub each_cond : (b : Bool) (xs : List A) → Each P xs → Each P (cond b xs [])
  each_cond true xs h = h
  each_cond false xs h = tt
