use Rattle.std.proofs.Common.{rules, [], ◌∙◌}
use Rattle.std.specs.Map.Iter.{deref}
use Rattle.sw_tree.specs.Sorted.{sort_keys_onto}
use Rattle.sw_core.specs.Laws.Iterated.{list_iterates}
use Rattle.sw_policy.proofs.Lone.{alone_put, many_put, lone_sorted}
use Rattle.sw_policy.proofs.one_or_many_set.OneOrManySerializeAsHashSet.write_as.Goals as goal

pub returns-in-Some : goal.returns-in-Some
returns-in-Some g c =
    let xs = c.args.source.now.keys in
    let same = lone_sorted g.T.Ord.cmp g.T.PartialEq.eq g.met.T.Ord.total g.met.T.Ord.matches_eq g.F.Preference.ALONE xs c.len.ensures.unique in
    alone_put g.B.Builds.put g.F.Preference.ALONE g.A.SerializeAs.writes c.args.mode g.T.Named.meaning (sort_keys_onto g.T.Ord.cmp [] xs) c.args.out.now c.write_as.new.out c.write_as.result c.in-Some.item.now
    (c.in-Some.ensures xs (list_iterates deref xs c.iter.result (search rules)) (search rules) ∙ same) (rw c.value.ensures at c.write_as.ensures)

pub returns-in-None : goal.returns-in-None
returns-in-None g c =
    let xs = c.args.source.now.keys in
    let same = lone_sorted g.T.Ord.cmp g.T.PartialEq.eq g.met.T.Ord.total g.met.T.Ord.matches_eq g.F.Preference.ALONE xs c.len.ensures.unique in
    many_put g.B.Builds.put g.F.Preference.ALONE g.A.SerializeAs.writes c.args.mode g.T.Named.meaning (sort_keys_onto g.T.Ord.cmp [] xs) c.args.out.now c.write_as-in-None.new.out c.write_as-in-None.result
    (c.in-None.ensures xs (list_iterates deref xs c.iter.result (search rules)) (search rules) ∙ same) c.write_as-in-None.ensures
