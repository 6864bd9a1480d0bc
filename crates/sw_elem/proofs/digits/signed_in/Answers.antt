use Rattle.std.proofs.Common.{◌≡◌, ◌∙◌, ap, sym, Some}
use Rattle.std.specs.Int.{w128}
use mir.Val.{to_z, of_z}
use Rattle.std.specs.Str.Parse.{signed_digits_value}
use Rattle.sw_elem.specs.Laws.Decimal.{signed_value}
use Rattle.sw_elem.proofs.Decimal.{held, held-numeral, signed_none}
use Rattle.sw_elem.proofs.digits.signed_in.Goals as goal

pub returns-in-Some : goal.returns-in-Some
returns-in-Some c =
    let h = held-numeral c.args.text.now c.in-Some.value (rw c.as_bytes.ensures.value at c.in-Some.ensures) in
    signed_value (to_z w128 (of_z w128 c.in-Some.value)) c.args.text.now h.digits h.value ∙ ap Some (sym c.from_i128.ensures)

pub returns-in-Ok : goal.returns-in-Ok
returns-in-Ok c =
    let v = c.in-Ok.ensures.value.0 in
    let same : to_z w128 (of_z w128 c.in-Ok.value) ≡ signed_digits_value 10 c.args.text.now = held c.in-Ok.value (signed_digits_value 10 c.args.text.now) v.1 v.0.1 in
    signed_value (to_z w128 (of_z w128 c.in-Ok.value)) c.args.text.now v.0.0 same ∙ ap Some (sym c.from_i128-in-Ok.ensures)

pub returns-in-Err : goal.returns-in-Err
returns-in-Err c = signed_none c.args.text.now c.in-Err.ensures.value.0
