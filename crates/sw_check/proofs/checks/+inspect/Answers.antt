use Rattle.std.proofs.Common.{arith, ap, sym, subst, ◌∙◌, ◌≤◌, length}
use Rattle.sw_check.specs.Form.{most_levels}
use Rattle.sw_check.specs.Blame.{here, first_blame, blame}
use Rattle.sw_check.specs.Checked.{checked}
use Rattle.sw_check.specs.Inner.Found.{FindsFirst}
use Rattle.sw_check.specs.Laws.Blame.{blame-checked}
use Rattle.sw_check.proofs.Choices.{part_levels, others_levels}
use Rattle.sw_check.proofs.checks.+inspect.Goals as goal

pub row-child-requires : goal.row-child-requires
row-child-requires t c = (omega (arith, c.decreases, part_levels c.args.parts.now c.loop-number.number c.index-parts-number.result c.index-parts-number.result c.loop-number-test.true c.index-parts-number.is), tt)

pub parts_of-read_by-requires : goal.parts_of-read_by-requires
parts_of-read_by-requires t c =
    let same = ap most_levels c.in-First.ensures.others in
    let few : length c.in-First.others.now ≤ 65535 = c.in-First.ensures.few in
    (omega (arith, c.decreases, same, others_levels c.args.expr.now c.in-First.first.now c.args.mode c.in-First.mode c.in-First.ensures.checked), few)

pub inspect-returns-clause-found : goal.inspect-returns-clause-found
inspect-returns-clause-found t c =
    let below = first_blame blame (checked c.args.expr.now c.args.mode) in
    let whole = ap (λ r. here r below) c.fault.ensures ∙ sym (blame-checked c.args.expr.now c.args.mode) in
    subst (λ b. FindsFirst c.args.found.now c.own.new.self b) whole (c.own.ensures c.args.found.now below c.is_nothing-nothing_before.ensures c.parts_of-parts.ensures.found)
