-- What a check answers where it doesn't answer a grade.
use Rattle.std.specs.Prelude.{◌≡◌, ◌≢◌, [], Option, Some, None}
use Rattle.sw_check.specs.declared.blame.Blame.{Blame}
use Rattle.sw_check.specs.declared.blame.CheckFail.{CheckFail}
use Rattle.sw_check.specs.declared.blame.CheckFail.TheVariants as fail

-- there is a blame, and its path has a step
abbrev pub HasSteps : Option Blame → Type 0
HasSteps (Some b) = b.path ≢ []
HasSteps None = ⊥

-- the blame; or want of memory, where there is one whose path takes memory
abbrev pub IsBlamed : CheckFail → Option Blame → Type 0
IsBlamed (fail.Blame b) o = o ≡ Some b
IsBlamed fail.Memory o = HasSteps o
