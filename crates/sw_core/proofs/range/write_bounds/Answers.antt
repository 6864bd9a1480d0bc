use Rattle.std.proofs.Common.{[], ◌∷◌, refl}
use Rattle.sw_core.specs.Laws.Record.{record_put}
use Rattle.sw_core.specs.Range.{range_names}
use Rattle.sw_core.proofs.range.write_bounds.Goals as goal

pub returns : goal.returns
returns g c =
    record_put g.B.Builds.put g.B.Builds.opened g.B.Builds.closed g.met.B.Builds.maps range_names (g.A.SerializeAs.writes ∷ g.A.SerializeAs.writes ∷ []) c.args.mode (g.T.Named.meaning c.args.start.now ∷ g.T.Named.meaning c.args.end.now ∷ [])
    c.args.out.now c.open_map.new.self c.write_field-2.new.out c.close.new.self c.close.result c.in_ok-open_map.ensures
    (c.write_field.new.out, c.in_ok-write_field.ensures, (c.write_field-2.new.out, c.in_ok-write_field-2.ensures, refl)) c.close.ensures
