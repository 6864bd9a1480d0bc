-- What the calls that write and read answer, and what they log.
use Rattle.std.specs.Prelude.{Result, Some, List}
use Rattle.sw_tree.specs.Answered.{Answered, read_cause, AnsweredFreely}
use Rattle.sw_tree.specs.Building.{IsMade}
use Rattle.sw_tree.specs.Logged.{Logged}
use Rattle.sw_tree.specs.Tree.{Tree}
use Rattle.sw_tree.specs.declared.fail.SerError.{SerError}
use Rattle.sw_tree.specs.declared.fail.SerFail.{SerFail}
use Rattle.sw_tree.specs.declared.fail.Refusal.{Refusal}
use Rattle.sw_tree.specs.declared.fail.DeFail.{DeFail}

-- the tree exactly where there is one, the refusal exactly where it is that one, or want of memory
abbrev pub IsWritten : Result Tree SerFail → Result Tree SerError → Type 0
IsWritten = IsMade

-- the value exactly where there is one, the refusal exactly where it is that one, or want of memory
abbrev pub IsRead : {T M : Type 0} → (T → M) → Result T DeFail → Result M Refusal → Type 0
IsRead f = Answered f read_cause

-- the same of a reading that takes no memory
abbrev pub IsReadFreely : {T M : Type 0} → (T → M) → Result T Refusal → Result M Refusal → Type 0
IsReadFreely f = Answered f Some

-- no want of memory
abbrev pub ReadsFreely : {T : Type 0} → Result T DeFail → Type 0
ReadsFreely = AnsweredFreely read_cause

-- the log has gained those refusals, of which want of memory may leave some out at the end
abbrev pub IsLogged : {T : Type 0} → Result T DeFail → List Refusal → List Refusal → List Refusal → Type 0
IsLogged = Logged read_cause
