use Rattle.std.proofs.Common.{◌≡◌, ◌<◌, ◌^◌, drop}
use Rattle.std.specs.List.{list_all}
use Rattle.sw_tree.specs.Number.{is_digit}
use Rattle.sw_tree.specs.Laws.Number.{value_from, value_of}
use Rattle.sw_tree.proofs.number.wide_value.Given as goal

abbrev pub invariant-loop-digit : goal.invariant-loop-digit
invariant-loop-digit l = record {
  so_far : value_from l.value (drop l.digit-index l.digits) ≡ value_of l.digits;
  digits : list_all is_digit l.digits ≡ list_all is_digit (drop l.digit-index l.digits);
  small : l.value < 2 ^ 128;
}
