use Rattle.sw_elem.proofs.Decimal.{few-plain_signed, few-negative}
use Rattle.sw_elem.proofs.digits.short_signed.Goals as goal

pub returns-in_ok-short_value : goal.returns-in_ok-short_value
returns-in_ok-short_value c =
    let h = c.in_ok-short_value.ensures in
    few-negative c.in_ok-first.first.now c.in_ok-first.rest.now c.args.spelling.now c.in_ok-short_value.field-0 c.from.result c.in_ok-first.ensures.cases.0 c.if-first-eq45.true h.0 h.1 c.from.ensures

pub returns-in_ok-short_value-2 : goal.returns-in_ok-short_value-2
returns-in_ok-short_value-2 c =
    let h = c.in_ok-short_value-2.ensures in
    few-plain_signed c.args.spelling.now c.in_ok-short_value-2.field-0 c.from-else-first-eq45.result h.0 h.1 c.from-else-first-eq45.ensures
