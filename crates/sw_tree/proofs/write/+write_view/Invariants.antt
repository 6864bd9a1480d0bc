use Rattle.std.proofs.Common.{◌≡◌, ◌+◌, ◌*◌, ◌≤◌, false, true}
use Rattle.sw_tree.specs.Tree.{depth, trees, trees_depth, entries, entries_depth, by_turns}
use Rattle.sw_tree.specs.Inner.Seen.{trees_of, pairs_of}
use Rattle.sw_tree.specs.Inner.View.{tree_of}
use Rattle.sw_tree.specs.Building.{puts}
use Rattle.sw_tree.proofs.write.+write_view.Given as goal

abbrev pub invariant-write_items-loop-item : goal.invariant-write_items-loop-item
invariant-write_items-loop-item g l = record {
  put : puts g.B.Builds.put (trees_of l.fn.items) (g.B.Builds.opened false l.fn.out) ≡ puts g.B.Builds.put (trees_of l.item-iterator) l.out;
  shallow : trees_depth (trees (trees_of l.item-iterator)) ≤ trees_depth (trees (trees_of l.fn.items));
}

abbrev pub invariant-write_entries-loop-key : goal.invariant-write_entries-loop-key
invariant-write_entries-loop-key g l = record {
  put : puts g.B.Builds.put (by_turns (pairs_of l.fn.pairs)) (g.B.Builds.opened true l.fn.out) ≡ puts g.B.Builds.put (by_turns (pairs_of l.key-iterator)) l.out;
  shallow : entries_depth (entries (pairs_of l.key-iterator)) ≤ entries_depth (entries (pairs_of l.fn.pairs));
}

abbrev pub decreases-write_view : goal.decreases-write_view
decreases-write_view g l = 2 * depth (tree_of l.view.now)

abbrev pub decreases-write_items : goal.decreases-write_items
decreases-write_items g l = 2 * trees_depth (trees (trees_of l.items)) + 1

abbrev pub decreases-write_entries : goal.decreases-write_entries
decreases-write_entries g l = 2 * entries_depth (entries (pairs_of l.pairs)) + 1
