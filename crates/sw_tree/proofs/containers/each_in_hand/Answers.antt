use Rattle.std.proofs.lemmas.List.{take_more}
use Rattle.sw_tree.proofs.Gathered.{Each-push}
use Rattle.sw_tree.proofs.containers.each_in_hand.Goals as goal

pub loop-item-preserved : goal.loop-item-preserved
loop-item-preserved g c =
    rw (take_more c.args.items.now c.loop-item.item-index c.item-item.result c.loop-item-test.true, ← c.item-item.is)
    (Each-push g.T.Named.meaning g.T.Named.is_meaning _ _ c.loop-item.invariant c.in_hand.ensures)
