use Rattle.sw_compact.proofs.Marked.{either_cause}
use Rattle.sw_compact.proofs.upgrading.upgrade.Goals as goal

pub returns-in-Err-clause-refused : goal.returns-in-Err-clause-refused
returns-in-Err-clause-refused c = either_cause c.args.bytes.now c.in-Err.error c.in-Err.ensures.found
