use Rattle.std.proofs.Common.{◌≡◌, ◌+◌, ◌*◌, max}
use Rattle.sw_tree.specs.Tree.{depth, trees, trees_depth, entries, entries_depth}
use Rattle.sw_tree.specs.Inner.Seen.{trees_of, pairs_of}
use Rattle.sw_tree.specs.Inner.View.{tree_of}
use Rattle.sw_tree.proofs.levels.+levels_of.Given as goal

abbrev pub invariant-levels_of_items-loop-item : goal.invariant-levels_of_items-loop-item
invariant-levels_of_items-loop-item l = trees_depth (trees (trees_of l.fn.items)) ≡ max l.most (trees_depth (trees (trees_of l.item-iterator)))

abbrev pub invariant-levels_of_entries-loop-key : goal.invariant-levels_of_entries-loop-key
invariant-levels_of_entries-loop-key l = entries_depth (entries (pairs_of l.fn.pairs)) ≡ max l.most (entries_depth (entries (pairs_of l.key-iterator)))

abbrev pub decreases-levels_of : goal.decreases-levels_of
decreases-levels_of l = 2 * depth (tree_of l.view)

abbrev pub decreases-levels_of_items : goal.decreases-levels_of_items
decreases-levels_of_items l = 2 * trees_depth (trees (trees_of l.items)) + 1

abbrev pub decreases-levels_of_entries : goal.decreases-levels_of_entries
decreases-levels_of_entries l = 2 * entries_depth (entries (pairs_of l.pairs)) + 1
