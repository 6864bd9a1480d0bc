use Rattle.std.proofs.Common.{◌∙◌, ap, sym, arith, Some}
use Rattle.sw_elem.specs.Laws.Decimal.{unsigned_value}
use Rattle.sw_elem.proofs.Decimal.{few-decimal, unsigned_none}
use Rattle.sw_elem.proofs.digits.unsigned_in.Goals as goal

pub returns-in-Some : goal.returns-in-Some
returns-in-Some c =
    let h = rw c.as_bytes.ensures.value at c.in-Some.ensures in
    few-decimal c.from.result c.args.text.now h.0 (c.from.ensures ∙ h.1) ∙ ap Some (sym c.from_u128.ensures)

pub returns-in-Ok : goal.returns-in-Ok
returns-in-Ok c =
    let v = c.in-Ok.ensures.value.0 in
    unsigned_value c.in-Ok.value c.args.text.now v.0.0 v.1 ∙ ap Some (sym c.from_u128-in-Ok.ensures)

pub returns-in-Err : goal.returns-in-Err
returns-in-Err c = unsigned_none c.args.text.now (λ h. c.in-Err.ensures.value.0 (h.0, omega (arith, h.1)))
