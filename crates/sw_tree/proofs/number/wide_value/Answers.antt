use Rattle.std.proofs.Common.{arith}
use Rattle.sw_tree.proofs.NumberLemmas.{grown}
use Rattle.sw_tree.proofs.number.wide_value.Goals as goal

pub returns-in_err-checked_mul : goal.returns-in_err-checked_mul
returns-in_err-checked_mul c =
    rw c.from_residual.ensures (λ k. c.in_err-checked_mul.ensures
    (omega (arith, k.small, grown c.args.digits.now c.loop-digit.digit-index c.loop-digit.value (omega arith) c.loop-digit.invariant.so_far)))

pub returns-in_err-value : goal.returns-in_err-value
returns-in_err-value c =
    rw c.from_residual-in_err-value.ensures (λ k. c.in_err-value.ensures
    (omega (arith, k.small, c.in_ok-checked_mul.ensures, grown c.args.digits.now c.loop-digit.digit-index c.loop-digit.value (omega arith) c.loop-digit.invariant.so_far)))
