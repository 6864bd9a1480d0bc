use Rattle.std.proofs.Common.{List, [], ◌∷◌}
use Rattle.std.specs.Map.Iter.{deref_pair}
use Rattle.sw_tree.specs.Meant.{pair_meaning}
use Rattle.sw_core.specs.Inner.Iterated.{Iterates}
use Rattle.sw_core.specs.Inner.Putting.{all_put}
use Rattle.sw_core.specs.Laws.Iterated.{Left}
use Rattle.sw_core.specs.Tuple.{tuple_writes}
use Rattle.sw_core.proofs.map_list.put_tuples.Given as goal

abbrev pub invariant-loop-key : goal.invariant-loop-key
invariant-loop-key g l =
    let f = λ (e : g.row.K.Denot × g.row.V.Denot). tuple_writes (g.KA.SerializeAs.writes ∷ g.VA.SerializeAs.writes ∷ []) l.mode (pair_meaning g.K.Named.meaning g.V.Named.meaning e) in
    let put = g.B.Builds.put in
    (es : List (g.row.K.Denot × g.row.V.Denot)) → Iterates deref_pair g.I.Iterator.next_gives es l.fn.entries → Left deref_pair g.I.Iterator.next_gives put f (all_put put f es l.fn.out) l.out l.key-iterator
