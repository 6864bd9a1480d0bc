use Rattle.std.proofs.Common.{◌≡◌, ◌++◌}
use Rattle.sw_core.proofs.linked.linked.Given as goal

abbrev pub invariant-loop-value : goal.invariant-loop-value
invariant-loop-value g l = l.fn.values.items ≡ l.list ++ l.value-iterator.rest.items
