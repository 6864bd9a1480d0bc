-- Reading a source to its end.
use Rattle.std.specs.Prelude.{ℕ, ◌≡◌, ◌<◌, ◌≤◌, List, length, Result, Ok, Err, Vec}
use Rattle.std.specs.declared.alloc.Global.{Global}
use Rattle.std.specs.Io.KnownBytes.{prepend_known, IsAtEnd}
use Rattle.sw_tool.specs.Faults.{HasRisen}
use Rattle.sw_tool.specs.Change.{Change}
use Rattle.sw_tool.specs.declared.input.ReadFail.{ReadFail}
use Rattle.sw_tool.specs.declared.input.ReadFail.TheVariants.{Fault, TooLong, Memory}

-- a source gave some bytes, the first ones left where it tells them, its count of faults didn't fall, and that holds of the bytes
pub record Gives (source : Change) (Holds : List ℕ → Type 0) : Type 0 where
  pub gave : List ℕ
  pub came : source.old ≡ prepend_known gave source.new
  pub counts : source.before ≤ source.after
  pub holds : Holds gave

-- so many bytes are too many
abbrev pub limit : ℕ
limit = 4194305

-- the bytes that came are too few to be too many, and all that were left
pub record IsWhole (source : Change) (gave : List ℕ) : Type 0 where
  pub within : length gave < limit
  pub end : IsAtEnd source.new

-- what a reading answers of the bytes that came: they are all, or why they aren't
abbrev pub IsReadAs : Result (Vec ℕ Global) ReadFail → Change → List ℕ → Type 0
IsReadAs (Ok bytes) source gave = (bytes.items ≡ gave) × IsWhole source gave
IsReadAs (Err TooLong) source gave = length gave ≡ limit
IsReadAs (Err Fault) source gave = (length gave < limit) × HasRisen source.before source.after
IsReadAs (Err Memory) source gave = length gave < limit
