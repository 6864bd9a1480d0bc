use Rattle.std.proofs.Common.{rules}
use Rattle.std.specs.VecDeque.Iter.{deque_iter_rest}
use Rattle.sw_core.specs.Laws.Iterated.{rest_iterates}
use Rattle.sw_policy.proofs.Lone.{alone_put, many_put}
use Rattle.sw_policy.proofs.one_or_many_list.OneOrManySerializeAsVecDeque.write_as.Goals as goal

pub returns-in-Some : goal.returns-in-Some
returns-in-Some g c =
    let xs = c.args.source.now.items in
    alone_put g.B.Builds.put g.F.Preference.ALONE g.A.SerializeAs.writes c.args.mode g.T.Named.meaning xs c.args.out.now c.write_as.new.out c.write_as.result c.in-Some.item.now
    (c.in-Some.ensures xs (rest_iterates deque_iter_rest xs c.iter.result (search rules)) (search rules)) (rw c.value.ensures at c.write_as.ensures)

pub returns-in-None : goal.returns-in-None
returns-in-None g c =
    let xs = c.args.source.now.items in
    many_put g.B.Builds.put g.F.Preference.ALONE g.A.SerializeAs.writes c.args.mode g.T.Named.meaning xs c.args.out.now c.write_as-in-None.new.out c.write_as-in-None.result
    (c.in-None.ensures xs (rest_iterates deque_iter_rest xs c.iter.result (search rules)) (search rules)) c.write_as-in-None.ensures
