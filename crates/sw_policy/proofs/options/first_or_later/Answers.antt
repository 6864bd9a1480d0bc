use Rattle.std.proofs.Common.{Err, ap, ◌∙◌, sym}
use Rattle.sw_tree.specs.Inner.View.{seen}
use Rattle.sw_policy.specs.Options.{first_read}
use Rattle.sw_policy.specs.Inner.Chosen.{before}
use Rattle.sw_policy.proofs.Refusals.{none_reads}
use Rattle.sw_policy.proofs.options.first_or_later.Goals as goal

pub returns-in-Err-Refused-first-clause-answer : goal.returns-in-Err-Refused-first-clause-answer
returns-in-Err-Refused-first-clause-answer g c =
    let s = seen c.args.view in
    none_reads s (g.A.DeserializeAs.spot c.args.mode s.tree) (g.A.DeserializeAs.reads c.args.mode s.tree) (first_read g.O.Options.options c.args.mode s.tree) c.in-Err-Refused.refusal c.in-Err-Refused-first.later
    (rw c.in-Err-Refused.field-0-is at c.in-Err-Refused.ensures.answer) (rw c.in-Err-Refused-first.field-0-is at c.in-Err-Refused-first.ensures.answer)
    ∙ ap Err (ap (λ k. before k c.in-Err-Refused-first.later) (sym c.kind-refused.ensures) ∙ sym c.behind.ensures)
