use Rattle.std.proofs.Common.{◌≡◌, ◌+◌, ◌*◌, false, true, drop}
use Rattle.sw_tree.specs.Tree.{depth, trees, trees_depth, entries, entries_depth, by_turns}
use Rattle.sw_tree.specs.Building.{puts}
use Rattle.sw_tree.proofs.write.+write_parts.Given as goal

abbrev pub invariant-write_nodes-loop-item : goal.invariant-write_nodes-loop-item
invariant-write_nodes-loop-item g l =
    puts g.B.Builds.put l.items (g.B.Builds.opened false l.fn.out) ≡ puts g.B.Builds.put (drop l.item-index l.items) l.out

abbrev pub invariant-write_pairs-loop-key : goal.invariant-write_pairs-loop-key
invariant-write_pairs-loop-key g l =
    puts g.B.Builds.put (by_turns l.pairs) (g.B.Builds.opened true l.fn.out) ≡ puts g.B.Builds.put (by_turns (drop l.key-index l.pairs)) l.out

abbrev pub decreases-write_parts : goal.decreases-write_parts
decreases-write_parts g l = 2 * depth l.node.now

abbrev pub decreases-write_nodes : goal.decreases-write_nodes
decreases-write_nodes g l = 2 * trees_depth (trees l.items.now) + 1

abbrev pub decreases-write_pairs : goal.decreases-write_pairs
decreases-write_pairs g l = 2 * entries_depth (entries l.pairs.now) + 1
