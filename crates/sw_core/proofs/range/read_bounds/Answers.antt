use Rattle.std.proofs.Common.{◌≡◌, [], ◌∷◌, true, sym, subst, ◌∙◌}
use Rattle.sw_tree.specs.Meant.{row}
use Rattle.sw_tree.specs.Inner.View.{seen}
use Rattle.sw_tree.specs.Tree.{kind_of}
use Rattle.sw_tree.specs.declared.mode.Kind.TheVariants as kind
use Rattle.sw_elem.specs.Answers.{IsRead}
use Rattle.sw_core.specs.Parts.{reading}
use Rattle.sw_core.specs.Range.{range_names, bounds}
use Rattle.sw_core.proofs.Ranged.{of_record}
use Rattle.sw_core.proofs.range.read_bounds.Goals as goal

pub returns-else-eq-clause-answer : goal.returns-else-eq-clause-answer
returns-else-eq-clause-answer g c =
    let fs = bounds range_names (reading g.A.DeserializeAs.reads g.A.DeserializeAs.spot g.A.DeserializeAs.skips) in
    let f = λ (both : g.row.T.Denot × g.row.T.Denot). row (g.T.Named.meaning both.0 ∷ g.T.Named.meaning both.1 ∷ []) in
    let other : kind_of (seen c.args.view).tree ≡ kind.List → ⊥ = λ e. let same : c.eq.result ≡ true = rw (c.kind.ensures.value ∙ e) at c.eq.ensures in cc (same, c.if-eq.false) in
    subst (IsRead f c.read_record.result) (sym (of_record fs c.args.mode (seen c.args.view) other)) c.read_record.ensures.answer
