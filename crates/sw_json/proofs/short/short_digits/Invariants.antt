use Rattle.std.proofs.Common.{◌≡◌, ◌<◌, drop}
use Rattle.sw_tree.specs.Laws.Number.{value_from, value_of}
use Rattle.sw_json.specs.Bytes.{is_digit, front, behind}
use Rattle.sw_json.proofs.short.short_digits.Given as goal

abbrev pub invariant-loop-i : goal.invariant-loop-i
invariant-loop-i l = record {
  so_far : value_from l.value (front is_digit (drop l.i l.bytes)) ≡ value_of (front is_digit l.bytes);
  behind : behind is_digit (drop l.i l.bytes) ≡ behind is_digit l.bytes;
  bound : l.value < 9000000000000000000;
}
