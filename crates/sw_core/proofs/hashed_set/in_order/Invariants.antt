use Rattle.std.proofs.Common.{◌≡◌, [], map}
use Rattle.std.specs.Map.Iter.{deref}
use Rattle.sw_tree.specs.Sorted.{sort_keys_onto}
use Rattle.sw_core.proofs.hashed_set.in_order.Given as goal

abbrev pub invariant-loop-item : goal.invariant-loop-item
invariant-loop-item g l = sort_keys_onto g.T.Ord.cmp (map deref l.sorted.keys) l.item-iterator ≡ sort_keys_onto g.T.Ord.cmp [] l.source.keys
