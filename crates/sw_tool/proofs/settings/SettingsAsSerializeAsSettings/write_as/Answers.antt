use Rattle.std.proofs.Common.{[], ◌∷◌, refl}
use Rattle.sw_tree.specs.Meant.{text_meaning, unsigned_meaning, list_meaning, option_meaning, pair_meaning}
use Rattle.sw_core.specs.Laws.Record.{record_put}
use Rattle.sw_tool.specs.Settings.{settings_names}
use Rattle.sw_tool.proofs.settings.SettingsAsSerializeAsSettings.write_as.Goals as goal

pub returns : goal.returns
returns g c =
    let settings = c.args.source.now in
    record_put g.O.Builds.put g.O.Builds.opened g.O.Builds.closed g.met.O.Builds.maps settings_names (g.A.SerializeAs.writes ∷ g.B.SerializeAs.writes ∷ g.C.SerializeAs.writes ∷ g.D.SerializeAs.writes ∷ []) c.args.mode
    (text_meaning settings.name ∷ list_meaning unsigned_meaning settings.ids.items ∷ option_meaning (pair_meaning unsigned_meaning unsigned_meaning) settings.limits ∷
    list_meaning (pair_meaning text_meaning text_meaning) settings.labels.entries ∷ [])
    c.args.out.now c.open_map.new.self c.write_field-4.new.out c.close.new.self c.close.result c.in_ok-open_map.ensures (
      c.write_field.new.out,
      c.in_ok-write_field.ensures,
      (
        c.write_field-2.new.out,
        c.in_ok-write_field-2.ensures,
        (c.write_field-3.new.out, c.in_ok-write_field-3.ensures, (c.write_field-4.new.out, c.in_ok-write_field-4.ensures, refl)),
      ),
    ) c.close.ensures
