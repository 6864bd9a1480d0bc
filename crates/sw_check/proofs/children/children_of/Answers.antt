use Rattle.std.proofs.Common.{arith, ◌≤◌, ◌∙◌, ap, length}
use Rattle.sw_check.specs.Form.{choice}
use Rattle.sw_check.specs.Checked.{one}
use Rattle.sw_check.proofs.Choices.{first_checked}
use Rattle.sw_check.proofs.children.children_of.Goals as goal

pub returns-in-PickFirst-clause-checked : goal.returns-in-PickFirst-clause-checked
returns-in-PickFirst-clause-checked c =
    let some = rw c.in-PickFirst.is at c.expr.invariant in
    let whole = rw c.in-PickFirst.is at c.expr.view_is in
    let same = c.as_slice-options.ensures.value in
    let at_least : 1 ≤ length c.as_slice-options.result.now = omega (arith, some.0, ap length same) in
    ap (one 0 c.index-options-0.result) c.mode_of.ensures
    ∙ first_checked c.as_slice-options.result.now c.args.expr.now c.index-options-0.result c.index-options-0.result c.args.mode (ap choice same ∙ whole) at_least c.index-options-0.is
