use Rattle.std.proofs.Common.{◌≡◌, ap, sym, ◌∙◌, None, Ok}
use Rattle.sw_tree.specs.Inner.View.{seen}
use Rattle.sw_tree.specs.Mode.{plain}
use Rattle.sw_tree.specs.Tree.{Tree}
use Rattle.sw_tree.specs.Wires.{printed}
use Rattle.sw_core.specs.Inner.Printing.{printed_as}
use Rattle.sw_core.specs.Recoding.{skipped}
use Rattle.sw_core.proofs.Recoding.{wire_noted, write_noted, log_skipped}
use Rattle.sw_core.proofs.Again.{spells_image, again, again_same, settled, never_unprinted, written_plain, written_text, never_keyed, text_never_key}
use Rattle.sw_core.proofs.as_.As.recode.Goals as goal

pub returns-in_err-doc-clause-logs : goal.returns-in_err-doc-clause-logs
returns-in_err-doc-clause-logs g c =
    wire_noted c.from_residual.result c.in_err-doc.field-0.0 (g.W.Wire.spelled c.args.bytes.now) (g.A.DeserializeAs.skips (plain g.W.Wire.ID)) c.args.log.now c.from_residual.ensures.1 c.in_err-doc.ensures

pub returns-in_err-text-clause-logs : goal.returns-in_err-text-clause-logs
returns-in_err-text-clause-logs g c =
    let k =
    log_skipped (g.W.Wire.spelled c.args.bytes.now) c.in_ok-doc.doc.tree (seen c.view.result) c.plain-mode.result g.W.Wire.ID g.A.DeserializeAs.skips c.args.log.now c.deserialize.new.log
    c.in_ok-doc.ensures c.view.ensures (c.plain-mode.ensures ∙ ap plain c.ID.ensures) c.in_ok-value.ensures.logs in
    write_noted c.from_residual-in_err-text.result c.in_err-text.field-0.0 c.args.log.now (skipped g.A.DeserializeAs.skips g.W.Wire.ID g.W.Wire.spelled c.args.bytes.now) c.deserialize.new.log c.from_residual-in_err-text.ensures.1 k

pub returns-in_err-text-clause-never_key : goal.returns-in_err-text-clause-never_key
returns-in_err-text-clause-never_key g c =
    let v = g.T.Named.meaning c.in_ok-value.value in
    let mode = c.plain-mode.ensures ∙ ap plain c.ID.ensures in
    let none : (t : Tree) → g.A.SerializeAs.writes c.plain-mode.result v ≡ Ok t → printed g.W.Wire.ID g.W.Wire.text t ≡ None → ⊥ =
    λ t q n. never_unprinted g.T.Named.is_meaning g.A.SerializeAs.writes g.A.DeserializeAs.reads g.A.DeserializeAs.spot g.A.DeserializeAs.skips g.A.Adapter.expr g.A.Adapter.norm g.A.Adapter.assumes g.met.A.Adapter.keeps
    g.W.Wire.ID g.W.Wire.spelled g.W.Wire.text g.met.W.Wire.prints_images c.args.token.now.sound
    v c.in_ok-value.ensures.meant t (written_plain g.A.SerializeAs.writes g.W.Wire.ID c.plain-mode.result mode v t q) n in
    text_never_key c.from_residual-in_err-text.result c.in_err-text.field-0.0 (printed_as g.W.Wire.ID g.W.Wire.text (g.A.SerializeAs.writes c.plain-mode.result v)) c.from_residual-in_err-text.ensures.1 c.in_err-text.ensures.text
    (never_keyed g.W.Wire.ID g.W.Wire.text (g.A.SerializeAs.writes c.plain-mode.result v)
    (λ p. g.met.A.Adapter.keeps.never_key (plain g.W.Wire.ID) c.args.token.now.sound v c.in_ok-value.ensures.meant (ap (λ m. g.A.SerializeAs.writes m v) (sym mode) ∙ p)) none)

pub returns-clause-spells : goal.returns-clause-spells
returns-clause-spells g c =
    let v = g.T.Named.meaning c.in_ok-value.value in
    let mode = c.plain-mode.ensures ∙ ap plain c.ID.ensures in
    let w = written_text g.W.Wire.ID g.W.Wire.text (g.A.SerializeAs.writes c.plain-mode.result v) c.in_ok-text.text.items c.in_ok-text.ensures.text in
    let written = written_plain g.A.SerializeAs.writes g.W.Wire.ID c.plain-mode.result mode v w.0 w.1 in
    spells_image g.T.Named.is_meaning g.A.SerializeAs.writes g.A.DeserializeAs.reads g.A.DeserializeAs.spot g.A.DeserializeAs.skips g.A.Adapter.expr g.A.Adapter.norm g.A.Adapter.assumes g.met.A.Adapter.keeps
    g.W.Wire.ID g.W.Wire.spelled g.W.Wire.text g.met.W.Wire.prints_images c.args.token.now.sound
    v c.in_ok-value.ensures.meant w.0 written (c.in_ok-text.ensures.short w.0 w.1) c.in_ok-text.text.items w.2

pub returns-clause-again : goal.returns-clause-again
returns-clause-again g c y =
    let v = g.T.Named.meaning c.in_ok-value.value in
    let mode = c.plain-mode.ensures ∙ ap plain c.ID.ensures in
    let w = written_text g.W.Wire.ID g.W.Wire.text (g.A.SerializeAs.writes c.plain-mode.result v) c.in_ok-text.text.items c.in_ok-text.ensures.text in
    let written = written_plain g.A.SerializeAs.writes g.W.Wire.ID c.plain-mode.result mode v w.0 w.1 in
    again g.T.Named.is_meaning g.A.SerializeAs.writes g.A.DeserializeAs.reads g.A.DeserializeAs.spot g.A.DeserializeAs.skips g.A.Adapter.expr g.A.Adapter.norm g.A.Adapter.assumes g.met.A.Adapter.keeps
    g.W.Wire.ID g.W.Wire.spelled g.W.Wire.text g.met.W.Wire.prints_images c.args.token.now.sound
    v c.in_ok-value.ensures.meant w.0 written (c.in_ok-text.ensures.short w.0 w.1) y c.in_ok-text.text.items w.2

pub returns-clause-same : goal.returns-clause-same
returns-clause-same g c y exact =
    let v = g.T.Named.meaning c.in_ok-value.value in
    let mode = c.plain-mode.ensures ∙ ap plain c.ID.ensures in
    let w = written_text g.W.Wire.ID g.W.Wire.text (g.A.SerializeAs.writes c.plain-mode.result v) c.in_ok-text.text.items c.in_ok-text.ensures.text in
    let written = written_plain g.A.SerializeAs.writes g.W.Wire.ID c.plain-mode.result mode v w.0 w.1 in
    again_same g.T.Named.is_meaning g.A.SerializeAs.writes g.A.DeserializeAs.reads g.A.DeserializeAs.spot g.A.DeserializeAs.skips g.A.Adapter.expr g.A.Adapter.norm g.A.Adapter.assumes g.met.A.Adapter.keeps
    g.W.Wire.ID g.W.Wire.spelled g.W.Wire.text g.met.W.Wire.prints_images c.args.token.now.sound
    v c.in_ok-value.ensures.meant w.0 written (c.in_ok-text.ensures.short w.0 w.1) y exact c.in_ok-text.text.items w.2

pub returns-clause-settled : goal.returns-clause-settled
returns-clause-settled g c y exact =
    let v = g.T.Named.meaning c.in_ok-value.value in
    let mode = c.plain-mode.ensures ∙ ap plain c.ID.ensures in
    let w = written_text g.W.Wire.ID g.W.Wire.text (g.A.SerializeAs.writes c.plain-mode.result v) c.in_ok-text.text.items c.in_ok-text.ensures.text in
    let written = written_plain g.A.SerializeAs.writes g.W.Wire.ID c.plain-mode.result mode v w.0 w.1 in
    settled g.T.Named.is_meaning g.A.SerializeAs.writes g.A.DeserializeAs.reads g.A.DeserializeAs.spot g.A.DeserializeAs.skips g.A.Adapter.expr g.A.Adapter.norm g.A.Adapter.assumes g.met.A.Adapter.keeps
    g.W.Wire.ID g.W.Wire.spelled g.W.Wire.text g.met.W.Wire.prints_images c.args.token.now.sound
    v c.in_ok-value.ensures.meant w.0 written (c.in_ok-text.ensures.short w.0 w.1) y exact c.in_ok-text.text.items w.2
