use Rattle.std.proofs.Common.{List}
use Rattle.std.specs.Map.Iter.{deref}
use Rattle.sw_tree.specs.Mode.{at_key, at_value}
use Rattle.sw_tree.specs.Placed.{pair_of}
use Rattle.sw_core.specs.Inner.Iterated.{Iterates}
use Rattle.sw_core.specs.Inner.Putting.{all_put_pairs}
use Rattle.sw_pairs.proofs.Pairs.{PairsLeft}
use Rattle.sw_pairs.proofs.each.put_pairs.Given as goal

abbrev pub invariant-loop-pair : goal.invariant-loop-pair
invariant-loop-pair g l =
    let f = pair_of (λ (x : g.row.T.Denot). g.K.SerializeAs.writes (at_key l.mode) (g.T.Named.meaning x)) (λ (y : g.row.U.Denot). g.V.SerializeAs.writes (at_value l.mode) (g.U.Named.meaning y)) in
    let put = g.B.Builds.put in
    (xs : List (g.row.T.Denot × g.row.U.Denot)) → Iterates deref g.I.Iterator.next_gives xs l.fn.pairs → PairsLeft g.I.Iterator.next_gives put f (all_put_pairs put f xs l.fn.out) l.out l.pair-iterator
