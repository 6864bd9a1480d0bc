-- The blame of an expression: the first failure in preorder.
use Rattle.std.specs.Prelude.{◌≡◌, ℕ, zero, suc, [], ◌∷◌, Option, Some, None}
use Rattle.sw_tree.specs.declared.mode.Mode.{Mode}
use Rattle.sw_check.specs.declared.rule.Rule.{Rule}
use Rattle.sw_check.specs.declared.blame.Blame.{Blame}
use Rattle.sw_check.specs.Form.{Form, Forms, no_forms, form, levels}
use Rattle.sw_check.specs.Checked.{Checked, none, one, two, each, checked}
use Rattle.sw_check.specs.Rules.{fault}

-- the rule that fails at the expression itself, else what is blamed below it
abbrev pub here : Option Rule → Option Blame → Option Blame
here (Some r) b = Some (record { path = []; rule = r })
here None b = b

-- what is blamed in the child of that number
abbrev pub under : ℕ → Option Blame → Option Blame
under n (Some b) = Some (record { path = n ∷ b.path; rule = b.rule })
under n None = None

-- the first of the two, if there is one, else the second
abbrev pub or_else : Option Blame → Option Blame → Option Blame
or_else (Some b) c = Some b
or_else None c = c

-- the first blame among parts that are numbered from n on, where `of` gives that of each
abbrev pub row_blame : (Form → Mode → Option Blame) → Forms → ℕ → Mode → Option Blame
row_blame of no_forms n m = None
row_blame of (form p ps) n m = or_else (under n (of p m)) (row_blame of ps (suc n) m)

-- the first blame among children
abbrev pub first_blame : (Form → Mode → Option Blame) → Checked → Option Blame
first_blame of none = None
first_blame of (one n p m) = under n (of p m)
first_blame of (two p m q n) = or_else (under 0 (of p m)) (under 1 (of q n))
first_blame of (each ps m) = row_blame of ps 0 m

-- what is blamed at the expression, or at most so many levels below it
abbrev pub blame_to : ℕ → Form → Mode → Option Blame
blame_to zero e m = here (fault e m) None
blame_to (suc n) e m = here (fault e m) (first_blame (blame_to n) (checked e m))

-- what is blamed at the expression or anywhere below it
abbrev pub blame : Form → Mode → Option Blame
blame e m = blame_to (levels e) e m

-- nothing is blamed
abbrev pub IsSound : Form → Mode → Type 0
IsSound e m = blame e m ≡ None
