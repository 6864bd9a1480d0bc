-- Writing the whole of some bytes to a sink.
use Rattle.std.specs.Prelude.{ℕ, ◌≡◌, ◌≤◌, ◌⊎◌, List, ◌++◌, take, codes, Result, OnOk, OnErr}
use Rattle.std.specs.List.{concat}
use Rattle.std.specs.Io.KnownBytes.{append_known}
use Rattle.sw_tool.specs.Faults.{HasRisen}
use Rattle.sw_tool.specs.Change.{Change}
use Rattle.sw_tool.specs.declared.source.Failed.{Failed}

-- a sink gained all of these bytes, where it tells what it took
abbrev pub Gains : Change → List ℕ → Type 0
Gains sink bytes = sink.new ≡ append_known sink.old bytes

-- a sink gained a front of these bytes, where it tells what it took
pub record GainsFront (sink : Change) (bytes : List ℕ) : Type 0 where
  pub count : ℕ
  pub gained : Gains sink (take count bytes)

-- Ok: a sink gained all of these bytes; Failed: a front of them, and its count of faults rose
pub record Writes (answer : Result (Unit {0}) Failed) (sink : Change) (bytes : List ℕ) : Type 0 where
  pub whole : OnOk answer (Gains sink bytes)
  pub front : OnErr answer (GainsFront sink bytes)
  pub fault : OnErr answer (HasRisen sink.before sink.after)
  pub counts : sink.before ≤ sink.after

-- a front of the line was gained, and the whole line unless the count of faults rose
pub record Notes (notes : Change) (line : List ℕ) : Type 0 where
  pub front : GainsFront notes line
  pub whole : HasRisen notes.before notes.after ⊎ Gains notes line

-- the pieces one after another, and a line feed
abbrev pub line : List (List ℕ) → List ℕ
line pieces = concat pieces ++ codes "\n"
