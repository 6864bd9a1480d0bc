use Rattle.std.proofs.Common.{◌≡◌, ◌+◌, ◌*◌, ◌≤◌}
use Rattle.sw_tree.specs.Tree.{depth, trees, trees_depth, entries, entries_depth}
use Rattle.sw_tree.specs.Inner.Seen.{trees_of, pairs_of}
use Rattle.sw_tree.specs.Inner.View.{tree_of}
use Rattle.sw_tree.specs.Image.{trees_image, entries_image}
use Rattle.sw_tree.proofs.ImageLemmas.{onto, onto_entries}
use Rattle.sw_tree.proofs.images.+image.Given as goal

abbrev pub invariant-images_of-loop-item : goal.invariant-images_of-loop-item
invariant-images_of-loop-item l = record {
  so_far : trees_image (trees (trees_of l.fn.items)) ≡ onto l.images.items (trees_image (trees (trees_of l.item-iterator)));
  shallow : trees_depth (trees (trees_of l.item-iterator)) ≤ trees_depth (trees (trees_of l.fn.items));
}

abbrev pub invariant-entry_images_of-loop-key : goal.invariant-entry_images_of-loop-key
invariant-entry_images_of-loop-key l = record {
  so_far : entries_image (entries (pairs_of l.fn.pairs)) ≡ onto_entries l.images.items (entries_image (entries (pairs_of l.key-iterator)));
  shallow : entries_depth (entries (pairs_of l.key-iterator)) ≤ entries_depth (entries (pairs_of l.fn.pairs));
}

abbrev pub decreases-image_of : goal.decreases-image_of
decreases-image_of l = 2 * depth (tree_of l.view)

abbrev pub decreases-images_of : goal.decreases-images_of
decreases-images_of l = 2 * trees_depth (trees (trees_of l.items)) + 1

abbrev pub decreases-entry_images_of : goal.decreases-entry_images_of
decreases-entry_images_of l = 2 * entries_depth (entries (pairs_of l.pairs)) + 1
