use Rattle.std.proofs.Common.{refl, sym, subst}
use Rattle.std.specs.Map.Iter.{deref}
use Rattle.sw_tree.specs.Mode.{at_value}
use Rattle.sw_core.specs.Inner.Iterated.{Iterates}
use Rattle.sw_core.specs.Inner.Putting.{all_put}
use Rattle.sw_core.specs.Laws.Iterated.{put_next, put_refused, put_last}
use Rattle.sw_core.proofs.each.put_each.Goals as goal

pub loop-value-init : goal.loop-value-init
loop-value-init g c xs h =
    record { left = xs; comes = subst (Iterates deref g.I.Iterator.next_gives xs) (sym c.into_iter-value-iterator.ensures.into_iter_gives) h; same = refl }

pub loop-value-preserved : goal.loop-value-preserved
loop-value-preserved g c xs h =
    let put = g.B.Builds.put in
    let f = λ (x : g.row.T.Denot). g.A.SerializeAs.writes (at_value c.args.mode) (g.T.Named.meaning x) in
    put_next deref g.I.Iterator.next_gives put f (all_put put f xs c.args.out.now) c.loop-value.out c.loop-value.value-iterator c.next.new.self c.in-Some.value c.in-Some.ensures.steps c.write_as.new.out (c.loop-value.invariant xs h)
    (rw c.value.ensures at c.in_ok-write_as.ensures)

pub returns-in_err-write_as : goal.returns-in_err-write_as
returns-in_err-write_as g c xs h =
    let put = g.B.Builds.put in
    let f = λ (x : g.row.T.Denot). g.A.SerializeAs.writes (at_value c.args.mode) (g.T.Named.meaning x) in
    put_refused deref g.I.Iterator.next_gives put f (all_put put f xs c.args.out.now) c.loop-value.out c.loop-value.value-iterator c.next.new.self c.in-Some.value c.in-Some.ensures.steps c.from_residual.result
    c.in_err-write_as.field-0.0 c.write_as.new.out (c.loop-value.invariant xs h) c.from_residual.ensures.1 (rw c.value.ensures at c.in_err-write_as.ensures)

pub returns : goal.returns
returns g c xs h =
    let put = g.B.Builds.put in
    let f = λ (x : g.row.T.Denot). g.A.SerializeAs.writes (at_value c.args.mode) (g.T.Named.meaning x) in
    put_last deref g.I.Iterator.next_gives put f (all_put put f xs c.args.out.now) c.loop-value.out c.loop-value.value-iterator c.next.new.self (c.loop-value.invariant xs h) c.in-None.ensures.steps
