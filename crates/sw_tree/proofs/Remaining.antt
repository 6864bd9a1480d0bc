-- What holds of all items, if it holds of those that a loop has left.
use Rattle.std.proofs.Common.{◌≡◌, List, [], ◌∷◌, map, sym, subst}
use Rattle.sw_tree.specs.Steps.{Each}

module _ {T M : Type 0} (f : T → M) (P : M → Type 0) where
  -- where it holds of those that are left, it holds of all
  abbrev pub Suffices : List T → List T → Type 0
  Suffices left all = Each P (map f left) → Each P (map f all)

  pub suffices_start : (left all : List T) → left ≡ all → Suffices left all
  suffices_start left all e h = subst (λ xs. Each P (map f xs)) e h

  pub suffices_next : (left rest all : List T) (x : T) → Suffices left all → left ≡ x ∷ rest → P (f x) → Suffices rest all
  suffices_next left rest all x s e p h = s (subst (λ xs. Each P (map f xs)) (sym e) (p, h))

  pub suffices_end : (left all : List T) → Suffices left all → left ≡ [] → Each P (map f all)
  suffices_end left all s e = s (subst (λ xs. Each P (map f xs)) (sym e) tt)
