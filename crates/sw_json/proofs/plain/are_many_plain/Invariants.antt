use Rattle.std.proofs.Common.{◌-◌, length}
use Rattle.sw_json.specs.Inner.Plain.{ArePlain}
use Rattle.sw_json.proofs.plain.are_many_plain.Given as goal

abbrev pub invariant-loop-at : goal.invariant-loop-at
invariant-loop-at l = ArePlain l.bytes 0 l.at

abbrev pub decreases-loop-at : goal.decreases-loop-at
decreases-loop-at l = length l.bytes - l.at
