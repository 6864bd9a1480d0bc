-- How near a step comes to a node.
use Rattle.std.specs.Prelude.{ℕ, ◌+◌, ◌≤◌, ◌<◌, ◌≡◌, true, List, [], ◌∷◌, Some}
use Rattle.sw_tree.specs.Tree.{size}
use Rattle.sw_tree.specs.Seen.{Seen}
use Rattle.sw_tree.specs.declared.path.Step.{Step}
use Rattle.sw_tree.specs.Path.{HasPlace, child}

pub record HoldsOne (low place : ℕ) (s : Seen) (Later : Type 0) : Type 0 where
  pub counts : s.counts ≡ true
  pub behind : low < s.place
  pub from : s.place ≤ place
  pub later : s.place + size s.tree ≤ place → Later

-- the place is that of a node of one of the trees, each of which counts and stands behind the low place
abbrev pub Holds : ℕ → ℕ → List Seen → Type 0
Holds low place [] = ⊥
Holds low place (s ∷ ss) = HoldsOne low place s (Holds low place ss)

abbrev pub HoldsPair : ℕ → ℕ → List (Seen × Seen) → Type 0
HoldsPair low place [] = ⊥
HoldsPair low place (e ∷ es) = HoldsOne low place e.0 (HoldsOne low place e.1 (HoldsPair low place es))

-- a node at or above the place, behind the low place
pub record IsNear (low place : ℕ) (s : Seen) : Type 0 where
  pub inside : HasPlace s place
  pub on : low < s.place

-- a step to a child at or above the place
pub record Nearer (s t : Seen) (x : Step) (place : ℕ) : Type 0 where
  pub leads : child x s ≡ Some t
  pub inside : HasPlace t place
  pub on : s.place < t.place
