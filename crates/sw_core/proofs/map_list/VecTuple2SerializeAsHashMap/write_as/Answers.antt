use Rattle.std.proofs.Common.{[], ap, ◌∙◌, map}
use Rattle.std.specs.Map.Iter.{deref_pair}
use Rattle.sw_tree.specs.Sorted.{sort_onto}
use Rattle.sw_core.specs.Laws.Iterated.{lent_iterates}
use Rattle.sw_core.proofs.map_list.VecTuple2SerializeAsHashMap.write_as.Goals as goal

pub returns : goal.returns
returns g c =
    let sorted = sort_onto g.K.Ord.cmp [] c.args.source.now.entries in
    c.write_tuples.ensures sorted (lent_iterates deref_pair sorted c.into_iter.result (ap (map deref_pair) c.into_iter.ensures.into_iter_gives.0 ∙ c.in_ok-sorted.ensures))
