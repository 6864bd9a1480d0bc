use Rattle.std.proofs.Common.{rules}
use Rattle.std.specs.Slice.Iter.{iter_rest}
use Rattle.sw_core.specs.Laws.Iterated.{rest_iterates}
use Rattle.sw_core.proofs.vec.VecSerializeAs.write_as.Goals as goal

pub returns : goal.returns
returns g c = c.write_list.ensures c.args.source.now.items (rest_iterates iter_rest c.args.source.now.items c.iter.result (search rules))
