use Rattle.std.proofs.Common.{map, subst}
use Rattle.sw_tree.specs.Steps.{Each}
use Rattle.sw_tree.proofs.MeantLemmas.{array_meaning-is}
use Rattle.sw_tree.proofs.containers.ArrayMeant.in_hand.Goals as goal

pub returns : goal.returns
returns g c =
    array_meaning-is g.T.Named.meaning g.T.Named.is_meaning g.row.N c.args.self.now
    (subst (λ xs. Each g.T.Named.is_meaning (map g.T.Named.meaning xs)) c.as_slice.ensures c.each_in_hand.ensures) c.type_inv.self
