use Rattle.std.proofs.Common.{◌≡◌, drop, false}
use Rattle.sw_schema.specs.Patterns.{some_digits}
use Rattle.sw_schema.proofs.matching.some_digits.Given as goal

abbrev pub invariant-loop-byte : goal.invariant-loop-byte
invariant-loop-byte l = some_digits l.some (drop l.byte-index l.text) ≡ some_digits false l.text
