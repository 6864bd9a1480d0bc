-- What a blame is: the first failure of all subexpressions in preorder.
use Rattle.std.specs.Prelude.{◌≡◌, ℕ, ◌<◌, ◌⊎◌, ◌==◌, List, [], ◌∷◌, Option, Some, None, option_and_then, if◌then◌else◌, zero, suc}
use Rattle.sw_tree.specs.declared.mode.Mode.{Mode}
use Rattle.sw_check.specs.declared.blame.Blame.{Blame}
use Rattle.sw_check.specs.declared.blame.CheckFail.{CheckFail}
use Rattle.sw_check.specs.declared.blame.CheckFail.TheVariants as fail
use Rattle.sw_check.specs.Form.{Form, Forms, no_forms, form}
use Rattle.sw_check.specs.Rules.{fault}
use Rattle.sw_check.specs.Checked.{Checked, none, one, two, each, checked}

abbrev nth : Forms → Mode → ℕ → Option (Form × Mode)
nth no_forms m k = None
nth (form p ps) m zero = Some (p, m)
nth (form p ps) m (suc k) = nth ps m k

-- the child of that number, with the mode in which it is checked
abbrev pub child_at : Checked → ℕ → Option (Form × Mode)
child_at none k = None
child_at (one n p m) k = if n == k then Some (p, m) else None
child_at (two p m q n) zero = Some (p, m)
child_at (two p m q n) (suc zero) = Some (q, n)
child_at (two p m q n) (suc (suc k)) = None
child_at (each ps m) k = nth ps m k

-- the subexpression to which a path leads, with the mode in which it is checked
abbrev pub followed : List ℕ → Form → Mode → Option (Form × Mode)
followed [] e m = Some (e, m)
followed (k ∷ ks) e m = option_and_then (λ c. followed ks c.0 c.1) (child_at (checked e m) k)

-- no rule fails at any subexpression that is checked
abbrev pub NothingFails : Form → Mode → Type 0
NothingFails e m = (ks : List ℕ) (x : Form × Mode) → followed ks e m ≡ Some x → fault x.0 x.1 ≡ None

-- one path comes before another in preorder
abbrev pub Before : List ℕ → List ℕ → Type 0
Before [] [] = ⊥
Before [] (n ∷ ns) = Unit {0}
Before (k ∷ ks) [] = ⊥
Before (k ∷ ks) (n ∷ ns) = (k < n) ⊎ ((k ≡ n) × Before ks ns)

-- the path leads to a subexpression at which that rule is the first to fail, and at none before it does a rule fail
pub record IsFirst (e : Form) (m : Mode) (b : Blame) : Type 0 where
  pub fails : (x : Form × Mode) × (followed b.path e m ≡ Some x) × (fault x.0 x.1 ≡ Some b.rule)
  pub before : (ks : List ℕ) (x : Form × Mode) → followed ks e m ≡ Some x → Before ks b.path → fault x.0 x.1 ≡ None

-- what is answered as a blame is the first failure
abbrev pub BlamesFirst : CheckFail → Form → Mode → Type 0
BlamesFirst (fail.Blame b) e m = IsFirst e m b
BlamesFirst fail.Memory e m = Unit {0}
