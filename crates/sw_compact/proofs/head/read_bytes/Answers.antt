use Rattle.sw_compact.proofs.Values.{split_some, split_none}
use Rattle.sw_compact.proofs.head.read_bytes.Goals as goal

pub returns-in-Some : goal.returns-in-Some
returns-in-Some c = split_some c.args.count c.args.bytes.now c.in-Some.front.now c.in-Some.behind.now c.type_inv.bytes c.in-Some.ensures.cases

pub returns-in-None : goal.returns-in-None
returns-in-None c = split_none c.args.count c.args.bytes.now c.in-None.ensures.cases
