use Rattle.std.proofs.Common.{ap, sym, ◌∙◌}
use Rattle.sw_tree.specs.Mode.{plain}
use Rattle.sw_core.specs.Laws.Again.{kept_again}
use Rattle.sw_examples.proofs.stored.stored.Goals as goal

pub returns-in-Ok-clause-again : goal.returns-in-Ok-clause-again
returns-in-Ok-clause-again g c y =
    let v = g.T.Named.meaning c.args.value.now in
    let mode = c.plain.ensures ∙ ap plain c.ID.ensures in
    kept_again g.A.SerializeAs.writes g.A.DeserializeAs.reads g.W.Wire.ID g.W.Wire.spelled g.W.Wire.text g.A.Adapter.norm g.A.Adapter.assumes v c.keeps.ensures
    c.in_ok-node.node (ap (λ m. g.A.SerializeAs.writes m v) (sym mode) ∙ c.in_ok-node.ensures) c.kind-kind.ensures.short c.in-Ok.bytes.items c.in-Ok.ensures y
