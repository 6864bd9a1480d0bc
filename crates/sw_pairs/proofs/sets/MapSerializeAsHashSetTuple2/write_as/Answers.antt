use Rattle.std.proofs.Common.{rules, [], ap, ◌∙◌, map}
use Rattle.std.specs.Map.Iter.{deref}
use Rattle.sw_tree.specs.Sorted.{sort_keys_onto}
use Rattle.sw_core.specs.Laws.Iterated.{lent_iterates}
use Rattle.sw_pairs.proofs.PairSet.{pair_cmp}
use Rattle.sw_pairs.proofs.sets.MapSerializeAsHashSetTuple2.write_as.Goals as goal

pub returns : goal.returns
returns g c =
    let sorted = sort_keys_onto (pair_cmp g.T.Ord.cmp g.U.Ord.cmp) [] c.args.source.now.keys in
    c.write_pairs.ensures sorted (lent_iterates deref sorted c.into_iter.result (ap (map deref) (search rules) ∙ c.in_ok-sorted.ensures))
