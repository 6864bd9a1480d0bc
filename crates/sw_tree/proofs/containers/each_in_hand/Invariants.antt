use Rattle.std.proofs.Common.{take, map}
use Rattle.sw_tree.specs.Steps.{Each}
use Rattle.sw_tree.proofs.containers.each_in_hand.Given as goal

abbrev pub invariant-loop-item : goal.invariant-loop-item
invariant-loop-item g l = Each g.T.Named.is_meaning (map g.T.Named.meaning (take l.item-index l.items))
