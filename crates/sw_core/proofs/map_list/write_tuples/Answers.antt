use Rattle.std.proofs.Common.{[], ◌∷◌}
use Rattle.sw_tree.specs.Meant.{pair_meaning}
use Rattle.sw_core.specs.Laws.Putting.{list_refused, list_closed}
use Rattle.sw_core.specs.Tuple.{tuple_writes}
use Rattle.sw_core.proofs.map_list.write_tuples.Goals as goal

pub returns-in_err-put_tuples : goal.returns-in_err-put_tuples
returns-in_err-put_tuples g c es h =
    list_refused g.B.Builds.put (tuple_writes (g.KA.SerializeAs.writes ∷ g.VA.SerializeAs.writes ∷ [])) (pair_meaning g.K.Named.meaning g.V.Named.meaning) c.args.mode es c.open_list.new.self c.args.out.now c.put_tuples.new.out
    c.from_residual-in_err-put_tuples.result c.in_err-put_tuples.field-0.0 c.from_residual-in_err-put_tuples.ensures.1 (rw c.value.ensures at (c.in_err-put_tuples.ensures es h))

pub returns : goal.returns
returns g c es h =
    list_closed g.B.Builds.put (tuple_writes (g.KA.SerializeAs.writes ∷ g.VA.SerializeAs.writes ∷ [])) (pair_meaning g.K.Named.meaning g.V.Named.meaning) c.args.mode g.B.Builds.opened g.B.Builds.closed g.met.B.Builds.lists es c.args.out.now
    c.open_list.new.self c.put_tuples.new.out c.close.new.self c.close.result c.in_ok-open_list.ensures (rw c.value.ensures at (c.in_ok-put_tuples.ensures es h)) c.close.ensures
