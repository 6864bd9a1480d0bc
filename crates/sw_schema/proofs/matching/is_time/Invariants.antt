use Rattle.std.proofs.Common.{◌≡◌, drop, false}
use Rattle.sw_schema.specs.Patterns.{is_time}
use Rattle.sw_schema.proofs.matching.is_time.Given as goal

abbrev pub invariant-loop-index : goal.invariant-loop-index
invariant-loop-index l = is_time l.some (drop l.index l.text) ≡ is_time false l.text
