use Rattle.std.proofs.Common.{[], ◌∷◌, refl, sym, subst}
use Rattle.std.specs.Map.Iter.{deref_pair}
use Rattle.sw_tree.specs.Meant.{pair_meaning}
use Rattle.sw_core.specs.Inner.Iterated.{Iterates}
use Rattle.sw_core.specs.Inner.Putting.{all_put}
use Rattle.sw_core.specs.Laws.Iterated.{put_next, put_refused, put_last}
use Rattle.sw_core.specs.Tuple.{tuple_writes}
use Rattle.sw_core.proofs.map_list.put_tuples.Goals as goal

pub loop-key-init : goal.loop-key-init
loop-key-init g c es h =
    record { left = es; comes = subst (Iterates deref_pair g.I.Iterator.next_gives es) (sym c.into_iter-key-iterator.ensures.into_iter_gives) h; same = refl }

pub loop-key-preserved : goal.loop-key-preserved
loop-key-preserved g c es h =
    let put = g.B.Builds.put in
    let f = λ (e : g.row.K.Denot × g.row.V.Denot). tuple_writes (g.KA.SerializeAs.writes ∷ g.VA.SerializeAs.writes ∷ []) c.args.mode (pair_meaning g.K.Named.meaning g.V.Named.meaning e) in
    put_next deref_pair g.I.Iterator.next_gives put f (all_put put f es c.args.out.now) c.loop-key.out c.loop-key.key-iterator c.next.new.self (c.in-Some.key, c.in-Some.value) c.in-Some.ensures.steps c.write_tuple.new.out (c.loop-key.invariant es h)
    c.in_ok-write_tuple.ensures

pub returns-in_err-write_tuple : goal.returns-in_err-write_tuple
returns-in_err-write_tuple g c es h =
    let put = g.B.Builds.put in
    let f = λ (e : g.row.K.Denot × g.row.V.Denot). tuple_writes (g.KA.SerializeAs.writes ∷ g.VA.SerializeAs.writes ∷ []) c.args.mode (pair_meaning g.K.Named.meaning g.V.Named.meaning e) in
    put_refused deref_pair g.I.Iterator.next_gives put f (all_put put f es c.args.out.now) c.loop-key.out c.loop-key.key-iterator c.next.new.self (c.in-Some.key, c.in-Some.value) c.in-Some.ensures.steps c.from_residual.result
    c.in_err-write_tuple.field-0.0 c.write_tuple.new.out (c.loop-key.invariant es h) c.from_residual.ensures.1 c.in_err-write_tuple.ensures

pub returns : goal.returns
returns g c es h =
    let put = g.B.Builds.put in
    let f = λ (e : g.row.K.Denot × g.row.V.Denot). tuple_writes (g.KA.SerializeAs.writes ∷ g.VA.SerializeAs.writes ∷ []) c.args.mode (pair_meaning g.K.Named.meaning g.V.Named.meaning e) in
    put_last deref_pair g.I.Iterator.next_gives put f (all_put put f es c.args.out.now) c.loop-key.out c.loop-key.key-iterator c.next.new.self (c.loop-key.invariant es h) c.in-None.ensures.steps
