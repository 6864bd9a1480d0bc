use Rattle.std.proofs.Common.{List}
use Rattle.std.specs.Map.Iter.{deref}
use Rattle.sw_tree.specs.Mode.{at_value}
use Rattle.sw_core.specs.Inner.Iterated.{Iterates}
use Rattle.sw_core.specs.Inner.Putting.{all_put}
use Rattle.sw_core.specs.Laws.Iterated.{Left}
use Rattle.sw_core.proofs.each.put_each.Given as goal

abbrev pub invariant-loop-value : goal.invariant-loop-value
invariant-loop-value g l =
    let f = λ (x : g.row.T.Denot). g.A.SerializeAs.writes (at_value l.mode) (g.T.Named.meaning x) in
    let put = g.B.Builds.put in
    (xs : List g.row.T.Denot) → Iterates deref g.I.Iterator.next_gives xs l.fn.values → Left deref g.I.Iterator.next_gives put f (all_put put f xs l.fn.out) l.out l.value-iterator
