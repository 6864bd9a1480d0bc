use Rattle.std.proofs.Common.{◌≡◌, drop}
use Rattle.sw_tree.specs.Tree.{entries}
use Rattle.sw_tree.specs.Foreign.{are_plain_keyed}
use Rattle.sw_tree.proofs.node.are_plain_keyed.Given as goal

abbrev pub invariant-loop-key : goal.invariant-loop-key
invariant-loop-key l = are_plain_keyed (entries l.pairs) ≡ are_plain_keyed (entries (drop l.key-index l.pairs))
