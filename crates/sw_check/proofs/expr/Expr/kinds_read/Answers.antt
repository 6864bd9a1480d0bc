use Rattle.std.proofs.Common.{◌||◌, ◌∙◌}
use Rattle.sw_check.proofs.Choices.{options_read}
use Rattle.sw_check.proofs.expr.Expr.kinds_read.Goals as goal

pub returns-in-PickFirst : goal.returns-in-PickFirst
returns-in-PickFirst c =
    let some = rw c.in-PickFirst.is at c.self.invariant in
    let whole = rw c.in-PickFirst.is at c.self.view_is in
    λ k. c.union.ensures k ∙ (λ i. c.requires.read k i || c.requires.others k i) ∙ options_read c.in-PickFirst.field-0.items c.args.self.now c.args.mode k whole some.0
