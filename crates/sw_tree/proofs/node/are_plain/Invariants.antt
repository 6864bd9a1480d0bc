use Rattle.std.proofs.Common.{◌≡◌, drop}
use Rattle.sw_tree.specs.Tree.{trees}
use Rattle.sw_tree.specs.Foreign.{are_plain}
use Rattle.sw_tree.proofs.node.are_plain.Given as goal

abbrev pub invariant-loop-item : goal.invariant-loop-item
invariant-loop-item l = are_plain (trees l.items) ≡ are_plain (trees (drop l.item-index l.items))
