use Rattle.sw_compact.proofs.Values.{textual_some, textual_none}
use Rattle.sw_compact.proofs.head.text_head.Goals as goal

pub returns-in-Ok : goal.returns-in-Ok
returns-in-Ok c = textual_some c.args.part.now c.in-Ok.text.now c.args.behind.now c.in-Ok.ensures.0 c.in-Ok.ensures.1

pub returns-in-Err : goal.returns-in-Err
returns-in-Err c = textual_none c.args.part.now c.args.behind.now c.in-Err.ensures
