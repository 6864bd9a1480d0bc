use Rattle.sw_tree.specs.Inner.View.{seen}
use Rattle.sw_core.specs.MapList.{listed_reads, map_list_spot}
use Rattle.sw_core.specs.Laws.InOrder.{map_put}
use Rattle.sw_core.proofs.map_list.VecTuple2DeserializeAsBTreeMap.deserialize_as.Goals as goal

pub returns-clause-answer : goal.returns-clause-answer
returns-clause-answer g c =
    let key = g.KA.DeserializeAs in
    let value = g.VA.DeserializeAs in
    map_put g.K.Ord.cmp g.K.Named.meaning g.K.Ranked.order g.met.K.Ranked.order_is g.V.Named.meaning (listed_reads key.reads key.spot key.skips value.reads value.spot value.skips)
    (map_list_spot key.reads key.spot key.skips value.reads value.spot value.skips) c.args.mode (seen c.args.view) c.in_ok-pairs.pairs.items c.in_ok-put_in_order.field-0.entries c.in_ok-pairs.ensures.answer c.in_ok-put_in_order.ensures
