use Rattle.std.proofs.Common.{◌≡◌, map, subst, rules}
use Rattle.std.specs.Map.Iter.{deref}
use Rattle.std.proofs.lemmas.Map.Iter.{iter_end}
use Rattle.sw_tree.specs.Steps.{Each}
use Rattle.sw_tree.proofs.MeantLemmas.{list_meaning-is}
use Rattle.sw_tree.proofs.Gathered.{Each-push, Each-through}
use Rattle.sw_tree.proofs.sequences.LinkedListMeant.in_hand.Goals as goal

pub loop-item-preserved : goal.loop-item-preserved
loop-item-preserved g c =
    Each-push (λ r. g.T.Named.meaning (deref r)) g.T.Named.is_meaning c.loop-item.yielded c.in-Some.item c.loop-item.invariant c.in_hand.ensures

pub returns : goal.returns
returns g c =
    let all : map deref c.loop-item.yielded ≡ c.args.self.now = search (rules, iter_end) in
    list_meaning-is g.T.Named.meaning g.T.Named.is_meaning c.args.self.now
    (subst (λ xs. Each g.T.Named.is_meaning (map g.T.Named.meaning xs)) all
    (Each-through g.T.Named.meaning deref g.T.Named.is_meaning c.loop-item.yielded c.loop-item.invariant))
