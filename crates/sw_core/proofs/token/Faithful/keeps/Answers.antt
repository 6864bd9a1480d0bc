use Rattle.sw_core.proofs.Again.{kept}
use Rattle.sw_core.proofs.token.Faithful.keeps.Goals as goal

pub returns : goal.returns
returns g c =
    kept g.T.Named.is_meaning g.A.SerializeAs.writes g.A.DeserializeAs.reads g.A.DeserializeAs.spot g.A.DeserializeAs.skips g.A.Adapter.expr g.A.Adapter.norm g.A.Adapter.assumes g.met.A.Adapter.keeps
    g.W.Wire.ID g.W.Wire.spelled g.W.Wire.text g.met.W.Wire.prints_images c.args.self.now.sound (g.T.Named.meaning c.args.value.now) c.in_hand.ensures
