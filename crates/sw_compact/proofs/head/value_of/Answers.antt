use Rattle.std.proofs.Common.{◌+◌, ◌*◌, ◌<◌, ◌≤◌, suc, arith}
use Rattle.sw_compact.proofs.Values.{grown, fit}
use Rattle.sw_compact.proofs.head.value_of.Goals as goal

pub overflow_mul-value : goal.overflow_mul-value
overflow_mul-value c =
    let few : suc c.loop-digit.digit-index ≤ 16 = omega (arith, c.loop-digit-test.true, c.requires) in
    omega (arith, fit (suc c.loop-digit.digit-index) (256 * c.loop-digit.value + 0) (grown c.loop-digit.digit-index c.loop-digit.value 0 c.loop-digit.invariant.low (omega arith)) few)

pub overflow_add-value : goal.overflow_add-value
overflow_add-value c =
    let few : suc c.loop-digit.digit-index ≤ 16 = omega (arith, c.loop-digit-test.true, c.requires) in
    let low : c.from.result < 256 = omega (arith, c.from.ensures) in
    omega (arith, fit (suc c.loop-digit.digit-index) (256 * c.loop-digit.value + c.from.result) (grown c.loop-digit.digit-index c.loop-digit.value c.from.result c.loop-digit.invariant.low low) few)
