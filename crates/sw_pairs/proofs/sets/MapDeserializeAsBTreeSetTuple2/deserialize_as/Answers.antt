use Rattle.sw_tree.specs.Inner.View.{seen}
use Rattle.sw_core.specs.Entries.{entries_reads, entries_spot}
use Rattle.sw_pairs.proofs.PairSet.{pair_set_put}
use Rattle.sw_pairs.proofs.sets.MapDeserializeAsBTreeSetTuple2.deserialize_as.Goals as goal

pub returns-clause-answer : goal.returns-clause-answer
returns-clause-answer g c =
    let key = g.K.DeserializeAs in
    let value = g.V.DeserializeAs in
    pair_set_put g.T.Ord.cmp g.T.Named.meaning g.T.Ranked.order g.met.T.Ranked.order_is g.U.Ord.cmp g.U.Named.meaning g.U.Ranked.order g.met.U.Ranked.order_is
    (entries_reads key.reads key.spot key.skips value.reads value.spot value.skips) (entries_spot key.reads key.spot key.skips value.reads value.spot value.skips) c.args.mode (seen c.args.view)
    c.in_ok-pairs.pairs.items c.in_ok-put_in_order.field-0.keys c.in_ok-pairs.ensures.answer c.in_ok-put_in_order.ensures
