use Rattle.sw_tree.specs.Inner.View.{seen}
use Rattle.sw_core.specs.Fields.{no_slots}
use Rattle.sw_core.specs.Inner.Record.{all_logs}
use Rattle.sw_core.proofs.Keyed.{entry_cut}
use Rattle.sw_core.proofs.record.read_values.Goals as goal

pub returns-in-Err-Memory-clause-logs : goal.returns-in-Err-Memory-clause-logs
returns-in-Err-Memory-clause-logs g c =
    let strict = g.R.Fields.strict in
    let known = g.R.Fields.known in
    entry_cut strict known c.args.mode (g.R.Fields.slots c.loop-key.fields) c.loop-key.key-iterator (seen c.in-Some.key, seen c.in-Some.value) c.next.new.self c.in-Some.ensures.steps c.args.log.now c.loop-key.log c.read_value.new.log
    (all_logs strict known c.args.mode (no_slots known) c.args.entries) c.loop-key.invariant.logs (rw c.in-Err-Memory.field-0-is at c.in-Err-Memory.ensures.logs)
