use Rattle.std.proofs.Common.{◌≡◌, drop, false}
use Rattle.sw_schema.specs.Patterns.{fraction}
use Rattle.sw_schema.proofs.matching.fraction.Given as goal

abbrev pub invariant-loop-index : goal.invariant-loop-index
invariant-loop-index l = fraction l.some (drop l.index l.text) ≡ fraction false l.text
