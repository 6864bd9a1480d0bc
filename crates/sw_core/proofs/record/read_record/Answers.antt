use Rattle.sw_tree.specs.Inner.View.{seen}
use Rattle.sw_core.proofs.Keyed.{record_read, record_logged}
use Rattle.sw_core.proofs.record.read_record.Goals as goal

pub returns-in-Some-clause-answer : goal.returns-in-Some-clause-answer
returns-in-Some-clause-answer g c =
    record_read g.R.Fields.strict g.R.Fields.known c.args.mode (seen c.args.view) c.in-Some.entries c.in-Some.ensures g.T.Named.meaning c.read_values.result (rw c.value.ensures at c.read_values.ensures.answer)

pub returns-in-Some-clause-logs : goal.returns-in-Some-clause-logs
returns-in-Some-clause-logs g c =
    record_logged g.R.Fields.strict g.R.Fields.known c.args.mode (seen c.args.view) c.in-Some.entries c.in-Some.ensures c.read_values.result c.args.log.now c.read_values.new.log (rw c.value.ensures at c.read_values.ensures.logs)
