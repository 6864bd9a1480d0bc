use Rattle.std.proofs.Common.{◌∙◌, map}
use Rattle.sw_tree.specs.Steps.{Each}
use Rattle.sw_tree.specs.Meant.{IsPairOf, pair_meaning}
use Rattle.sw_tree.proofs.Sorted.{hashed_map_is}
use Rattle.sw_tree.proofs.Remaining.{suffices_start, suffices_next, suffices_end}
use Rattle.sw_tree.proofs.hashed.HashMapMeant.in_hand.Goals as goal

pub loop-key-init : goal.loop-key-init
loop-key-init g c =
    suffices_start (pair_meaning g.K.Named.meaning g.V.Named.meaning) (IsPairOf g.K.Named.is_meaning g.V.Named.is_meaning)
    c.into_iter-key-iterator.result c.args.self.now.entries (c.into_iter-key-iterator.ensures.into_iter_gives ∙ c.iter-key-items.ensures.rest)

pub loop-key-preserved : goal.loop-key-preserved
loop-key-preserved g c =
    suffices_next (pair_meaning g.K.Named.meaning g.V.Named.meaning) (IsPairOf g.K.Named.is_meaning g.V.Named.is_meaning)
    c.loop-key.key-iterator c.next.new.self c.args.self.now.entries (c.in-Some.key.now, c.in-Some.value.now)
    c.loop-key.invariant c.in-Some.ensures.steps (c.in_hand.ensures, c.in_hand-in-loop-key.ensures)

pub returns : goal.returns
returns g c =
    let P = IsPairOf g.K.Named.is_meaning g.V.Named.is_meaning in
    let f = pair_meaning g.K.Named.meaning g.V.Named.meaning in
    let m = c.args.self.now in
    let e : Each P (map f m.entries) = suffices_end f P c.loop-key.key-iterator m.entries c.loop-key.invariant c.in-None.ensures.steps.0 in
    hashed_map_is g.K.Ord.cmp g.K.Named.meaning g.K.Ranked.order g.met.K.Ranked.order_is g.K.Named.is_meaning g.V.Named.meaning g.V.Named.is_meaning g.met.K.Ranked.ranks m.entries e
