use Rattle.std.proofs.Common.{◌≡◌, ◌+◌, ◌*◌, ◌≤◌}
use Rattle.sw_tree.specs.Tree.{trees, entries, depth, trees_depth, entries_depth}
use Rattle.sw_schema.specs.Inner.Parts.{part_tree}
use Rattle.sw_schema.specs.SameTree.{same_trees, same_entries}
use Rattle.sw_schema.proofs.same.+same.Given as goal

abbrev pub invariant-same_items-loop-item : goal.invariant-same_items-loop-item
invariant-same_items-loop-item l = (same_trees (trees l.fn.first) (trees l.fn.second) ≡ same_trees (trees l.item-iterator) (trees l.second)) × (trees_depth (trees l.item-iterator) ≤ trees_depth (trees l.fn.first))

abbrev pub invariant-same_pairs-loop-key : goal.invariant-same_pairs-loop-key
invariant-same_pairs-loop-key l = (same_entries (entries l.fn.first) (entries l.fn.second) ≡ same_entries (entries l.key-iterator) (entries l.second)) × (entries_depth (entries l.key-iterator) ≤ entries_depth (entries l.fn.first))

abbrev pub decreases-same : goal.decreases-same
decreases-same l = 2 * depth (part_tree l.first)

abbrev pub decreases-same_items : goal.decreases-same_items
decreases-same_items l = 2 * trees_depth (trees l.first) + 1

abbrev pub decreases-same_pairs : goal.decreases-same_pairs
decreases-same_pairs l = 2 * entries_depth (entries l.first) + 1
