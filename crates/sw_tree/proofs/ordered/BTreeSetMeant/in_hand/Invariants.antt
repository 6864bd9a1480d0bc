use Rattle.sw_tree.proofs.Remaining.{Suffices}
use Rattle.sw_tree.proofs.ordered.BTreeSetMeant.in_hand.Given as goal

abbrev pub invariant-loop-item : goal.invariant-loop-item
invariant-loop-item g l = Suffices g.K.Named.meaning g.K.Named.is_meaning l.item-iterator l.self.keys
