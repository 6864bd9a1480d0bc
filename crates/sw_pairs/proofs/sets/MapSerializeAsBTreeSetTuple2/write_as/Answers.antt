use Rattle.std.proofs.Common.{rules}
use Rattle.std.specs.Map.Iter.{deref}
use Rattle.sw_core.specs.Laws.Iterated.{list_iterates}
use Rattle.sw_pairs.proofs.sets.MapSerializeAsBTreeSetTuple2.write_as.Goals as goal

pub returns : goal.returns
returns g c = c.write_pairs.ensures c.args.source.now.keys (list_iterates deref c.args.source.now.keys c.iter.result (search rules))
