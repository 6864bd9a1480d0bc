use Rattle.sw_tree.specs.Mode.{at_key, at_value}
use Rattle.sw_tree.specs.Inner.View.{seen}
use Rattle.sw_core.specs.Rows.{reader}
use Rattle.sw_core.proofs.Rows.{second_cut}
use Rattle.sw_core.proofs.entries.read_entry.Goals as goal

pub returns-in-Err-Memory-deserialize_as-clause-logs :
    goal.returns-in-Err-Memory-deserialize_as-clause-logs
returns-in-Err-Memory-deserialize_as-clause-logs g c =
    let key = reader g.K.DeserializeAs.reads g.K.DeserializeAs.spot g.K.DeserializeAs.skips (at_key c.args.mode) in
    let value = reader g.V.DeserializeAs.reads g.V.DeserializeAs.spot g.V.DeserializeAs.skips (at_value c.args.mode) in
    second_cut key value (seen c.args.key) (seen c.args.value) (g.T.Named.meaning c.in-Ok.key) c.args.log.now c.deserialize_as.new.log c.deserialize_as-2.new.log
    (rw c.key.ensures at c.in-Ok.ensures.answer) (rw c.key.ensures at c.in-Ok.ensures.logs)
    (rw (c.in-Err-Memory-deserialize_as.field-0-is, c.value.ensures) at c.in-Err-Memory-deserialize_as.ensures.logs)
