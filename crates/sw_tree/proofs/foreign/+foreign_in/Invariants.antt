use Rattle.std.proofs.Common.{◌≡◌, ◌+◌, ◌*◌, ◌≤◌}
use Rattle.sw_tree.specs.Tree.{depth, trees, trees_depth, entries, entries_depth}
use Rattle.sw_tree.specs.Inner.Seen.{trees_of, pairs_of}
use Rattle.sw_tree.specs.Inner.View.{tree_of}
use Rattle.sw_tree.specs.Inner.ForeignSeen.{foreign_each, foreign_each_entry}
use Rattle.sw_tree.proofs.foreign.+foreign_in.Given as goal

abbrev pub invariant-foreign_in_items-loop-item : goal.invariant-foreign_in_items-loop-item
invariant-foreign_in_items-loop-item l = record {
  rest : foreign_each l.fn.items ≡ foreign_each l.item-iterator;
  shallow : trees_depth (trees (trees_of l.item-iterator)) ≤ trees_depth (trees (trees_of l.fn.items));
}

abbrev pub invariant-foreign_in_entries-loop-key : goal.invariant-foreign_in_entries-loop-key
invariant-foreign_in_entries-loop-key l = record {
  rest : foreign_each_entry l.fn.entries ≡ foreign_each_entry l.key-iterator;
  shallow : entries_depth (entries (pairs_of l.key-iterator)) ≤ entries_depth (entries (pairs_of l.fn.entries));
}

abbrev pub decreases-foreign_in : goal.decreases-foreign_in
decreases-foreign_in l = 2 * depth (tree_of l.view)

abbrev pub decreases-foreign_in_items : goal.decreases-foreign_in_items
decreases-foreign_in_items l = 2 * trees_depth (trees (trees_of l.items)) + 1

abbrev pub decreases-foreign_in_entries : goal.decreases-foreign_in_entries
decreases-foreign_in_entries l = 2 * entries_depth (entries (pairs_of l.entries)) + 1
