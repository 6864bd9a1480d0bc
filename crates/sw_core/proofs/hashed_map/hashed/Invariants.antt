use Rattle.sw_core.proofs.Hashing.{Hashes}
use Rattle.sw_core.proofs.hashed_map.hashed.Given as goal

abbrev pub invariant-loop-key : goal.invariant-loop-key
invariant-loop-key g l = Hashes g.K.Ord.cmp g.K.PartialEq.eq l.fn.pairs.items l.map.entries l.key-iterator.rest.items
