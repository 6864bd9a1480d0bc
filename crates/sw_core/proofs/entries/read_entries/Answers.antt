use Rattle.sw_tree.specs.Inner.View.{seen}
use Rattle.sw_core.proofs.Children.{map_read, map_logged}
use Rattle.sw_core.proofs.entries.read_entries.Goals as goal

pub returns-in-Some-clause-answer : goal.returns-in-Some-clause-answer
returns-in-Some-clause-answer g c =
    map_read g.K.DeserializeAs.reads g.K.DeserializeAs.spot g.K.DeserializeAs.skips g.V.DeserializeAs.reads g.V.DeserializeAs.spot g.V.DeserializeAs.skips c.args.mode (seen c.args.view) c.in-Some.entries c.in-Some.ensures
    g.T.Named.meaning g.U.Named.meaning c.read_each_entry.result c.read_each_entry.ensures.answer

pub returns-in-Some-clause-logs : goal.returns-in-Some-clause-logs
returns-in-Some-clause-logs g c =
    map_logged g.K.DeserializeAs.reads g.K.DeserializeAs.spot g.K.DeserializeAs.skips g.V.DeserializeAs.reads g.V.DeserializeAs.spot g.V.DeserializeAs.skips c.args.mode (seen c.args.view) c.in-Some.entries c.in-Some.ensures
    c.read_each_entry.result c.args.log.now c.read_each_entry.new.log c.read_each_entry.ensures.logs
