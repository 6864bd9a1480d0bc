use Rattle.sw_compact.proofs.NumberBytes.{IsStacked}
use Rattle.sw_compact.proofs.number.push_wide.Given as goal

abbrev pub invariant-loop-rest : goal.invariant-loop-rest
invariant-loop-rest l = IsStacked l.magnitude l.at l.rest l.bytes

abbrev pub decreases-loop-rest : goal.decreases-loop-rest
decreases-loop-rest l = l.rest
