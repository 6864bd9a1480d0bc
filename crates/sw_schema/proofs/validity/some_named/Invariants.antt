use Rattle.std.proofs.Common.{◌≡◌}
use Rattle.sw_schema.specs.Valid.{has_name}
use Rattle.sw_schema.proofs.validity.some_named.Given as goal

abbrev pub invariant-loop-key : goal.invariant-loop-key
invariant-loop-key l = has_name l.name l.fn.entries ≡ has_name l.name l.key-iterator
