use Rattle.sw_core.proofs.Hashing.{HashesKeys}
use Rattle.sw_core.proofs.hashed_set.hashed.Given as goal

abbrev pub invariant-loop-value : goal.invariant-loop-value
invariant-loop-value g l = HashesKeys g.T.Ord.cmp g.T.PartialEq.eq l.fn.values.items l.set.keys l.value-iterator.rest.items
