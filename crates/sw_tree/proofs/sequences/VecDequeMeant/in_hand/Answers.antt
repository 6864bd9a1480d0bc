use Rattle.std.proofs.Common.{map, subst}
use Rattle.sw_tree.specs.Steps.{Each}
use Rattle.sw_tree.proofs.MeantLemmas.{list_meaning-is}
use Rattle.sw_tree.proofs.Gathered.{Each-append}
use Rattle.sw_tree.proofs.sequences.VecDequeMeant.in_hand.Goals as goal

pub returns : goal.returns
returns g c =
    list_meaning-is g.T.Named.meaning g.T.Named.is_meaning c.args.self.now.items
    (subst (λ xs. Each g.T.Named.is_meaning (map g.T.Named.meaning xs)) c.as_slices.ensures.items
    (Each-append g.T.Named.meaning g.T.Named.is_meaning c.as_slices.result.0.now c.as_slices.result.1.now c.each_in_hand.ensures c.each_in_hand-2.ensures))
