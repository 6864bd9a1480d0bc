use Rattle.std.proofs.Common.{◌≡◌, drop}
use Rattle.std.specs.Prelude.{fold}
use Rattle.sw_check.specs.TextClass.{class_of, with_byte}
use Rattle.sw_check.proofs.class.class_of.Given as goal

abbrev pub invariant-loop-byte : goal.invariant-loop-byte
invariant-loop-byte l = fold with_byte l.class (drop l.byte-index l.bytes) ≡ class_of l.bytes
