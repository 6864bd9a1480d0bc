use Rattle.sw_compact.proofs.Values.{eight_some}
use Rattle.sw_compact.proofs.head.read_eight.Goals as goal

pub returns-in-Some : goal.returns-in-Some
returns-in-Some c = eight_some c.args.bytes.now c.in-Some.eight.now c.in-Some.behind.now c.from_be_bytes.result c.type_inv.bytes c.in-Some.ensures.cases c.from_be_bytes.ensures
