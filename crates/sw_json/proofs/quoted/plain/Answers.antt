use Rattle.sw_json.proofs.ReadQuoted.{text_read, no_text}
use Rattle.sw_json.proofs.quoted.plain.Goals as goal

pub returns-in-Ok-clause-value : goal.returns-in-Ok-clause-value
returns-in-Ok-clause-value c = λ buffer. text_read c.in-Ok.text.now c.args.run.now c.args.rest.now c.in-Ok.ensures.0 c.in-Ok.ensures.1

pub returns-in-Err-clause-value : goal.returns-in-Err-clause-value
returns-in-Err-clause-value c = λ buffer. no_text c.args.run.now c.args.rest.now c.in-Err.ensures
