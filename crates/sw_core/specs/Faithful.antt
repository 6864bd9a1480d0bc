-- What asking for the token answers.
use Rattle.std.specs.Prelude.{◌≡◌, Option, Some, None, Result, Ok, Err}
use Rattle.sw_check.specs.declared.blame.Blame.{Blame}
use Rattle.sw_check.specs.declared.blame.CheckFail.{CheckFail}
use Rattle.sw_check.specs.declared.blame.CheckFail.TheVariants as fail

-- the token exactly where nothing is blamed, the blame exactly where it is that one, or want of memory
abbrev pub IsGiven : {T : Type 0} → Result T CheckFail → Option Blame → Type 0
IsGiven (Ok x) o = o ≡ None
IsGiven (Err (fail.Blame b)) o = o ≡ Some b
IsGiven (Err fail.Memory) o = Unit {0}
