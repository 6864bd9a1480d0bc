use Rattle.std.proofs.Common.{rules}
use Rattle.sw_core.proofs.Lent.{key_lent}
use Rattle.sw_core.proofs.hashed_set.in_order.Goals as goal

pub loop-item-preserved : goal.loop-item-preserved
loop-item-preserved g c =
    key_lent g.T.Ord.cmp c.loop-item.sorted.keys c.insert.new.self.keys c.args.source.now.keys c.loop-item.item-iterator c.next.new.self c.in-Some.item c.loop-item.invariant (search rules) (search rules)
