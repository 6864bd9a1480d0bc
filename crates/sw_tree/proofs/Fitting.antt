-- What fits is closed, and what is known of parts by their node.
use Rattle.sw_tree.proofs.Turning.{within_fits}
use Rattle.sw_tree.proofs.Children.{item_depth, entry_depth}
use Rattle.sw_tree.proofs.Shown.{list_seen, map_seen}

pub ruleset fitting = (within_fits, item_depth, entry_depth)

pub ruleset known = (list_seen, map_seen)
