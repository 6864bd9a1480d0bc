use Rattle.std.proofs.Common.{map, subst}
use Rattle.sw_tree.specs.Steps.{Each}
use Rattle.sw_tree.proofs.MeantLemmas.{list_meaning-is}
use Rattle.sw_tree.proofs.containers.VecMeant.in_hand.Goals as goal

pub returns : goal.returns
returns g c =
    list_meaning-is g.T.Named.meaning g.T.Named.is_meaning c.args.self.now.items
    (subst (λ xs. Each g.T.Named.is_meaning (map g.T.Named.meaning xs)) c.as_slice.ensures.value c.each_in_hand.ensures)
