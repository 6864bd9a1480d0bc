use Rattle.std.proofs.Common.{arith, rules}
use Rattle.std.proofs.lemmas.Fmt.{length-decimal-le}
use Rattle.sw_json.proofs.numeral.put_number.Goals as goal

pub write_digits-first-requires : goal.write_digits-first-requires
write_digits-first-requires c = (omega (arith, length-decimal-le 19 c.unsigned_abs.result (omega arith) (omega arith) (omega arith)), search rules)

pub returns-then-number-ge0-clause-within : goal.returns-then-number-ge0-clause-within
returns-then-number-ge0-clause-within c =
    let long = length-decimal-le 19 c.unsigned_abs.result (omega arith) (omega arith) (omega arith) in (omega arith, omega arith)

pub put_front-requires : goal.put_front-requires
put_front-requires c =
    let long = length-decimal-le 19 c.unsigned_abs.result (omega arith) (omega arith) (omega arith) in (omega arith, omega arith)

pub returns-clause-within : goal.returns-clause-within
returns-clause-within c =
    let long = length-decimal-le 19 c.unsigned_abs.result (omega arith) (omega arith) (omega arith) in (omega arith, omega arith)
