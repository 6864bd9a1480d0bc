use Rattle.std.proofs.Common.{rules}
use Rattle.std.specs.Slice.Iter.{iter_rest}
use Rattle.sw_core.specs.Laws.Iterated.{rest_iterates}
use Rattle.sw_core.proofs.array.ArraySerializeAs.write_as.Goals as goal

pub returns : goal.returns
returns g c = c.write_list.ensures c.args.source.now (rest_iterates iter_rest c.args.source.now c.iter.result (search rules))
