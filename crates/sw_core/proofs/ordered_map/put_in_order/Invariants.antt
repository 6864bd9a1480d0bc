use Rattle.std.proofs.Common.{◌≡◌, []}
use Rattle.sw_tree.specs.Sorted.{sort_onto}
use Rattle.sw_core.proofs.ordered_map.put_in_order.Given as goal

abbrev pub invariant-loop-key : goal.invariant-loop-key
invariant-loop-key g l = sort_onto g.K.Ord.cmp [] l.fn.pairs.items ≡ sort_onto g.K.Ord.cmp l.map.entries l.key-iterator.rest.items
