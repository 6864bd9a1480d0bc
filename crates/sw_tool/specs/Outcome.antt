-- The status of each outcome, and its line on the notes.
use Rattle.std.specs.Prelude.{ℕ, List, [], ◌∷◌, codes, decimal, string_bytes}
use Rattle.sw_tool.specs.Log.{skipped_line}
use Rattle.sw_tool.specs.Names.{kind_name, reason_name, rule_name}
use Rattle.sw_tool.specs.Output.{line}
use Rattle.sw_tool.specs.declared.outcome.Outcome.{Outcome}
use Rattle.sw_tool.specs.declared.outcome.Outcome.TheVariants as outcome
use Rattle.sw_tool.specs.declared.status.Status.{Status}
use Rattle.sw_tool.specs.declared.status.Status.TheVariants as status

abbrev pub status_of : Outcome → Status
status_of (outcome.Done log) = status.Ok
status_of outcome.Usage = status.Usage
status_of outcome.Syntax = status.Syntax
status_of (outcome.NotWhole at) = status.NotWhole
status_of (outcome.TooDeep at) = status.TooDeep
status_of (outcome.Refused kind path) = status.Refused
status_of (outcome.Unwritable reason) = status.Unwritable
status_of (outcome.Blamed rule path) = status.Blamed
status_of outcome.ReadFault = status.ReadFault
status_of outcome.WriteFault = status.WriteFault
status_of outcome.Memory = status.Memory
status_of outcome.TooLong = status.TooLong

-- no line where the output is written whole and nothing was passed over
abbrev pub line_of : Outcome → List ℕ
line_of (outcome.Done log) = skipped_line (string_bytes log)
line_of outcome.Usage = line (codes "usage: recode P, check P, schema P or demo N" ∷ [])
line_of outcome.Syntax = line (codes "syntax" ∷ [])
line_of (outcome.NotWhole at) = line (codes "not whole at " ∷ decimal at ∷ [])
line_of (outcome.TooDeep at) = line (codes "too deep at " ∷ decimal at ∷ [])
line_of (outcome.Refused kind path) = line (codes "refused " ∷ kind_name kind ∷ codes " at " ∷ string_bytes path ∷ [])
line_of (outcome.Unwritable reason) = line (codes "unwritable " ∷ reason_name reason ∷ [])
line_of (outcome.Blamed rule path) = line (codes "blamed " ∷ rule_name rule ∷ codes " at " ∷ string_bytes path ∷ [])
line_of outcome.ReadFault = line (codes "read fault" ∷ [])
line_of outcome.WriteFault = line (codes "write fault" ∷ [])
line_of outcome.Memory = line (codes "memory" ∷ [])
line_of outcome.TooLong = line (codes "too long" ∷ [])
