use Rattle.std.proofs.Common.{[]}
use Rattle.sw_tree.specs.Sorted.{sort_keys_onto}
use Rattle.sw_tree.specs.Inner.View.{seen}
use Rattle.sw_elem.specs.Equations.{own_spot}
use Rattle.sw_core.specs.Laws.InOrder.{set_put}
use Rattle.sw_policy.specs.OneOrMany.{one_or_many_reads}
use Rattle.sw_policy.proofs.one_or_many_set.OneOrManyDeserializeAsHashSet.deserialize_as.Goals as goal

pub returns-clause-answer : goal.returns-clause-answer
returns-clause-answer g c =
    let item = g.A.DeserializeAs in
    set_put g.T.Ord.cmp g.T.Named.meaning g.T.Ranked.order g.met.T.Ranked.order_is (one_or_many_reads item.reads item.spot item.skips) own_spot c.args.mode (seen c.args.view)
    c.in_ok-values.values.items (sort_keys_onto g.T.Ord.cmp [] c.in_ok-hashed.field-0.keys) c.in_ok-values.ensures.answer c.in_ok-hashed.ensures
