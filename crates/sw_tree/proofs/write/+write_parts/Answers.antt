use Rattle.std.proofs.Common.{arith}
use Rattle.sw_tree.proofs.Children.{entry_depth}
use Rattle.sw_tree.proofs.write.+write_parts.Goals as goal

pub write_pairs-write_parts-requires : goal.write_pairs-write_parts-requires
write_pairs-write_parts-requires g t c κs within =
    (omega (arith, c.decreases, entry_depth c.args.pairs.now c.loop-key.key-index c.loop-key-item.result c.loop-key-item.result c.loop-key-test.true c.loop-key-item.is), within)

pub write_pairs-write_parts-requires-in-loop-key : goal.write_pairs-write_parts-requires-in-loop-key
write_pairs-write_parts-requires-in-loop-key g t c κs within =
    (omega (arith, c.decreases, entry_depth c.args.pairs.now c.loop-key.key-index c.loop-key-item.result c.loop-key-item.result c.loop-key-test.true c.loop-key-item.is), within)
