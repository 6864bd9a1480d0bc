use Rattle.std.proofs.Common.{◌≡◌, drop, true}
use Rattle.sw_schema.specs.Patterns.{are_pairs}
use Rattle.sw_schema.proofs.matching.is_hex.Given as goal

abbrev pub invariant-loop-byte : goal.invariant-loop-byte
invariant-loop-byte l = are_pairs l.even (drop l.byte-index l.text) ≡ are_pairs true l.text
