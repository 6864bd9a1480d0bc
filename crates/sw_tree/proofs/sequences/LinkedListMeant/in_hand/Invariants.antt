use Rattle.std.proofs.Common.{map}
use Rattle.std.specs.Map.Iter.{deref}
use Rattle.sw_tree.specs.Steps.{Each}
use Rattle.sw_tree.proofs.sequences.LinkedListMeant.in_hand.Given as goal

abbrev pub invariant-loop-item : goal.invariant-loop-item
invariant-loop-item g l = Each g.T.Named.is_meaning (map (λ r. g.T.Named.meaning (deref r)) l.yielded)
