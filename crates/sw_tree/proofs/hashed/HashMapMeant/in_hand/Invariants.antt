use Rattle.sw_tree.specs.Meant.{IsPairOf, pair_meaning}
use Rattle.sw_tree.proofs.Remaining.{Suffices}
use Rattle.sw_tree.proofs.hashed.HashMapMeant.in_hand.Given as goal

abbrev pub invariant-loop-key : goal.invariant-loop-key
invariant-loop-key g l = Suffices (pair_meaning g.K.Named.meaning g.V.Named.meaning) (IsPairOf g.K.Named.is_meaning g.V.Named.is_meaning) l.key-iterator l.self.entries
