use Rattle.sw_tool.proofs.Logged.{some_logged, is_spelled, nodes_shown, document_told}
use Rattle.sw_tool.proofs.log.log_text.Goals as goal

pub read_again-requires : goal.read_again-requires
read_again-requires c = is_spelled c.args.bytes.now c.args.log.now (some_logged c.args.log.now c.if-is_empty.ensures) c.requires

pub told_in-requires : goal.told_in-requires
told_in-requires c = rw c.view.ensures (nodes_shown c.args.bytes.now c.in-Ok.doc.tree c.args.log.now c.in-Ok.ensures c.requires)

pub returns-in-Ok : goal.returns-in-Ok
returns-in-Ok c = document_told c.args.bytes.now c.in-Ok.doc.tree _ c.args.log.now _ c.in-Ok.ensures c.view.ensures (some_logged c.args.log.now c.if-is_empty.ensures) c.told_in.ensures
