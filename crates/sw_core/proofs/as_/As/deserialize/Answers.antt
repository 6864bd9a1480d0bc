use Rattle.sw_tree.specs.Inner.View.{seen}
use Rattle.sw_core.proofs.Again.{read_meant}
use Rattle.sw_core.proofs.as_.As.deserialize.Goals as goal

pub returns-clause-meant : goal.returns-clause-meant
returns-clause-meant g c =
    read_meant g.T.Named.meaning g.T.Named.is_meaning g.A.DeserializeAs.reads g.A.DeserializeAs.spot g.met.A.DeserializeAs.lawful_reading c.args.mode (seen c.args.view)
    c.kind-kind.ensures.proper c.kind-kind.ensures.shallow c.deserialize_as.result c.deserialize_as.ensures.answer
