use Rattle.std.proofs.Common.{◌≡◌, List, ◌++◌, ap, ◌∙◌}
use Rattle.sw_tree.specs.Mode.{plain}
use Rattle.sw_tree.specs.declared.fail.Refusal.{Refusal}
use Rattle.sw_tree.specs.declared.mode.WireKind.TheVariants.{Json}
use Rattle.sw_tool.specs.Nests.{json_log}
use Rattle.sw_tool.proofs.Logged.{logged_nodes}
use Rattle.sw_tool.proofs.nest.convert.Goals as goal

pub log_text-requires : goal.log_text-requires
log_text-requires g c =
    let log = json_log g.A.DeserializeAs.skips c.args.bytes.now in
    let logged : c.notes.result.now ≡ log = c.notes.ensures ∙ c.in-Ok.ensures.logs ∙ ap (λ (old : List Refusal). old ++ log) c.new-log.ensures in
    logged_nodes g.A.DeserializeAs.reads g.A.DeserializeAs.spot g.A.DeserializeAs.skips g.A.SerializeAs.writes c.args.bytes.now _ _ (g.met.A.Adapter.keeps.note_kinds (plain Json)) c.in-Ok.ensures.answers logged
