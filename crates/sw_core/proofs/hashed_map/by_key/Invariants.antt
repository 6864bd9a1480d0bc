use Rattle.std.proofs.Common.{◌≡◌, [], map}
use Rattle.std.specs.Map.Iter.{deref_pair}
use Rattle.sw_tree.specs.Sorted.{sort_onto}
use Rattle.sw_core.proofs.hashed_map.by_key.Given as goal

abbrev pub invariant-loop-key : goal.invariant-loop-key
invariant-loop-key g l = sort_onto g.K.Ord.cmp (map deref_pair l.sorted.entries) l.key-iterator ≡ sort_onto g.K.Ord.cmp [] l.source.entries
