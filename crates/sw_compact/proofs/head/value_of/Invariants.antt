use Rattle.std.proofs.Common.{◌≡◌, ◌<◌, ◌^◌, drop}
use Rattle.sw_compact.specs.Head.{value_from}
use Rattle.sw_compact.proofs.head.value_of.Given as goal

-- the number so far, with which the digits that are left give the number of all
abbrev pub invariant-loop-digit : goal.invariant-loop-digit
invariant-loop-digit l = record {
  number : value_from l.value (drop l.digit-index l.fn.digits) ≡ value_from 0 l.fn.digits;
  low : l.value < 256 ^ l.digit-index;
}
