use Rattle.std.proofs.Common.{◌∙◌, map}
use Rattle.sw_tree.specs.Steps.{Each}
use Rattle.sw_tree.proofs.Sorted.{hashed_set_is}
use Rattle.sw_tree.proofs.Remaining.{suffices_start, suffices_next, suffices_end}
use Rattle.sw_tree.proofs.hashed.HashSetMeant.in_hand.Goals as goal

pub loop-item-init : goal.loop-item-init
loop-item-init g c =
    suffices_start g.K.Named.meaning g.K.Named.is_meaning
    c.into_iter-item-iterator.result c.args.self.now.keys (c.into_iter-item-iterator.ensures.into_iter_gives ∙ c.iter-item-items.ensures.rest)

pub loop-item-preserved : goal.loop-item-preserved
loop-item-preserved g c =
    suffices_next g.K.Named.meaning g.K.Named.is_meaning
    c.loop-item.item-iterator c.next.new.self c.args.self.now.keys c.in-Some.item.now c.loop-item.invariant c.in-Some.ensures.steps c.in_hand.ensures

pub returns : goal.returns
returns g c =
    let s = c.args.self.now in
    let e : Each g.K.Named.is_meaning (map g.K.Named.meaning s.keys) =
    suffices_end g.K.Named.meaning g.K.Named.is_meaning c.loop-item.item-iterator s.keys c.loop-item.invariant c.in-None.ensures.steps.0 in
    hashed_set_is g.K.Ord.cmp g.K.Named.meaning g.K.Ranked.order g.met.K.Ranked.order_is g.K.Named.is_meaning g.met.K.Ranked.ranks s.keys e
