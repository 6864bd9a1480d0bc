use Rattle.std.proofs.Common.{rules}
use Rattle.std.specs.VecDeque.Iter.{deque_iter_rest}
use Rattle.sw_core.specs.Laws.Iterated.{rest_iterates}
use Rattle.sw_pairs.proofs.sequences.MapSerializeAsVecDequeTuple2.write_as.Goals as goal

pub returns : goal.returns
returns g c = c.write_pairs.ensures c.args.source.now.items (rest_iterates deque_iter_rest c.args.source.now.items c.iter.result (search rules))
