use Rattle.std.proofs.Common.{◌≡◌, []}
use Rattle.sw_tree.specs.Sorted.{sort_keys_onto}
use Rattle.sw_core.proofs.ordered_set.put_in_order.Given as goal

abbrev pub invariant-loop-value : goal.invariant-loop-value
invariant-loop-value g l = sort_keys_onto g.T.Ord.cmp [] l.fn.values.items ≡ sort_keys_onto g.T.Ord.cmp l.set.keys l.value-iterator.rest.items
