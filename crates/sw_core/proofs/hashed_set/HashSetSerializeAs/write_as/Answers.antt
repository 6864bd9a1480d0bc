use Rattle.std.proofs.Common.{rules, [], ap, ◌∙◌, map}
use Rattle.std.specs.Map.Iter.{deref}
use Rattle.sw_tree.specs.Sorted.{sort_keys_onto}
use Rattle.sw_core.specs.Laws.Iterated.{lent_iterates}
use Rattle.sw_core.proofs.hashed_set.HashSetSerializeAs.write_as.Goals as goal

pub returns : goal.returns
returns g c =
    c.write_list.ensures (sort_keys_onto g.T.Ord.cmp [] c.args.source.now.keys)
    (lent_iterates deref (sort_keys_onto g.T.Ord.cmp [] c.args.source.now.keys) c.into_iter.result (ap (map deref) (search rules) ∙ c.in_ok-sorted.ensures))
