use Rattle.std.proofs.Common.{ℕ, ◌<◌, ◌≤◌, ◌^◌, length, arith}
use Rattle.std.proofs.Math.Nat.{pow-le-pow_right}
use Rattle.sw_tree.proofs.number.few_value.Goals as goal

-- fewer than 19 digits so far
room : (i v size : ℕ) → v < 10 ^ i → i < size → size ≤ 19 → v < 10 ^ 18
room i v size h k few =
    let some : 0 < 10 = omega arith in
    let less : i ≤ 18 = omega arith in
    let most : 10 ^ i ≤ 10 ^ 18 = pow-le-pow_right some less in
    omega (arith, h, most)

pub overflow_mul-value : goal.overflow_mul-value
overflow_mul-value c =
    let small = room c.loop-digit.digit-index c.loop-digit.value (length c.args.digits.now) c.loop-digit.invariant.small c.loop-digit-test.true c.if-digits-gt-SHORT.false in
    omega (arith, small)

pub overflow_add-value : goal.overflow_add-value
overflow_add-value c =
    let small = room c.loop-digit.digit-index c.loop-digit.value (length c.args.digits.now) c.loop-digit.invariant.small c.loop-digit-test.true c.if-digits-gt-SHORT.false in
    omega (arith, small, c.from.ensures, c.type_inv.digits c.loop-digit.digit-index)
