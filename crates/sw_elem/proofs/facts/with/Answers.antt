use Rattle.sw_elem.proofs.KindSets.{with_from}
use Rattle.sw_elem.proofs.facts.with.Goals as goal

pub returns : goal.returns
returns c = with_from c.args.kinds c.with.result c.args.kind c.with.ensures
