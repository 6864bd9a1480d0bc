use Rattle.std.proofs.Common.{◌≡◌, ◌++◌}
use Rattle.sw_tree.specs.Tree.{turns}
use Rattle.sw_tree.proofs.Turning.{with_waiting}
use Rattle.sw_tree.proofs.node_builder.paired.Given as goal

abbrev pub invariant-loop-child : goal.invariant-loop-child
invariant-loop-child l = turns l.fn.children.items ≡ l.entries.items ++ turns (with_waiting l.waiting l.child-iterator.rest.items)
