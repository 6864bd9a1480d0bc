use Rattle.std.proofs.Common.{refl, sym, subst}
use Rattle.std.specs.Map.Iter.{deref}
use Rattle.sw_tree.specs.Mode.{at_key, at_value}
use Rattle.sw_tree.specs.Placed.{pair_of}
use Rattle.sw_core.specs.Inner.Iterated.{Iterates}
use Rattle.sw_core.specs.Inner.Putting.{all_put_pairs}
use Rattle.sw_pairs.proofs.Pairs.{pair_next, pair_refused, pairs_last}
use Rattle.sw_pairs.proofs.each.put_pairs.Goals as goal

pub loop-pair-init : goal.loop-pair-init
loop-pair-init g c xs h =
    record { left = xs; comes = subst (Iterates deref g.I.Iterator.next_gives xs) (sym c.into_iter-pair-iterator.ensures.into_iter_gives) h; same = refl }

pub loop-pair-preserved : goal.loop-pair-preserved
loop-pair-preserved g c xs h =
    let put = g.B.Builds.put in
    let f = pair_of (λ (x : g.row.T.Denot). g.K.SerializeAs.writes (at_key c.args.mode) (g.T.Named.meaning x)) (λ (y : g.row.U.Denot). g.V.SerializeAs.writes (at_value c.args.mode) (g.U.Named.meaning y)) in
    pair_next g.I.Iterator.next_gives put f (all_put_pairs put f xs c.args.out.now) c.loop-pair.out c.loop-pair.pair-iterator c.next.new.self c.in-Some.pair c.in-Some.ensures.steps c.put_pair.new.out (c.loop-pair.invariant xs h)
    c.in_ok-put_pair.ensures

pub returns-in_err-put_pair : goal.returns-in_err-put_pair
returns-in_err-put_pair g c xs h =
    let put = g.B.Builds.put in
    let f = pair_of (λ (x : g.row.T.Denot). g.K.SerializeAs.writes (at_key c.args.mode) (g.T.Named.meaning x)) (λ (y : g.row.U.Denot). g.V.SerializeAs.writes (at_value c.args.mode) (g.U.Named.meaning y)) in
    pair_refused g.I.Iterator.next_gives put f (all_put_pairs put f xs c.args.out.now) c.loop-pair.out c.loop-pair.pair-iterator c.next.new.self c.in-Some.pair c.in-Some.ensures.steps c.from_residual.result
    c.in_err-put_pair.field-0.0 c.put_pair.new.out (c.loop-pair.invariant xs h) c.from_residual.ensures.1 c.in_err-put_pair.ensures

pub returns : goal.returns
returns g c xs h =
    let put = g.B.Builds.put in
    let f = pair_of (λ (x : g.row.T.Denot). g.K.SerializeAs.writes (at_key c.args.mode) (g.T.Named.meaning x)) (λ (y : g.row.U.Denot). g.V.SerializeAs.writes (at_value c.args.mode) (g.U.Named.meaning y)) in
    pairs_last g.I.Iterator.next_gives put f (all_put_pairs put f xs c.args.out.now) c.loop-pair.out c.loop-pair.pair-iterator c.next.new.self (c.loop-pair.invariant xs h) c.in-None.ensures.steps
