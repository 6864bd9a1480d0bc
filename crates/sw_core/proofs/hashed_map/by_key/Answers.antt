use Rattle.std.proofs.Common.{rules}
use Rattle.sw_core.proofs.Lent.{entry_lent}
use Rattle.sw_core.proofs.hashed_map.by_key.Goals as goal

pub loop-key-preserved : goal.loop-key-preserved
loop-key-preserved g c =
    entry_lent g.K.Ord.cmp c.loop-key.sorted.entries c.insert.new.self.entries c.args.source.now.entries c.loop-key.key-iterator c.next.new.self c.in-Some.key c.in-Some.value c.loop-key.invariant (search rules) (search rules)
