use Rattle.std.specs.Map.Iter.{deref_pair}
use Rattle.sw_core.specs.Laws.Iterated.{list_iterates}
use Rattle.sw_core.proofs.map_list.VecTuple2SerializeAsBTreeMap.write_as.Goals as goal

pub returns : goal.returns
returns g c = c.write_tuples.ensures c.args.source.now.entries (list_iterates deref_pair c.args.source.now.entries c.iter.result c.iter.ensures.rest)
