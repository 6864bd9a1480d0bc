use Rattle.sw_tree.specs.Inner.View.{seen}
use Rattle.sw_core.proofs.Children.{list_read, list_logged}
use Rattle.sw_core.proofs.each.read_list.Goals as goal

pub returns-in-Some-clause-answer : goal.returns-in-Some-clause-answer
returns-in-Some-clause-answer g c =
    list_read g.A.DeserializeAs.reads g.A.DeserializeAs.spot g.A.DeserializeAs.skips c.args.mode (seen c.args.view) c.in-Some.items c.in-Some.ensures g.T.Named.meaning c.read_each.result
    (rw c.value.ensures at c.read_each.ensures.answer)

pub returns-in-Some-clause-logs : goal.returns-in-Some-clause-logs
returns-in-Some-clause-logs g c =
    list_logged g.A.DeserializeAs.reads g.A.DeserializeAs.spot g.A.DeserializeAs.skips c.args.mode (seen c.args.view) c.in-Some.items c.in-Some.ensures c.read_each.result c.args.log.now c.read_each.new.log
    (rw c.value.ensures at c.read_each.ensures.logs)
