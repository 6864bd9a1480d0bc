-- The number that two halves hold has these halves.
use Rattle.std.specs.Prelude.{ℤ, ◌≡◌, ℕ, ◌/◌, ◌%◌, ◌^◌, ◌<◌, Bool, ◌-◌, true, false}
use Rattle.std.proofs.Common.{refl, arith, ap, ◌∙◌}
use Rattle.sw_tree.specs.declared.whole.Whole.TheInside.{Inside}
use Rattle.sw_tree.specs.Whole.{fields_of, fields}
use Rattle.sw_tree.specs.Inner.Whole.{number_of, bits_of, IsWithin, IsWhole}

abbrev pub number : Inside → ℤ
number a = number_of a.upper (bits_of a.high a.low)

fields_of-bits : (b : Bool) (high low : ℕ) → low < 2 ^ 64 → fields_of b (bits_of high low) ≡ record { upper = b; high = high; low = low }
fields_of-bits b high low h =
    let q : bits_of high low / 2 ^ 64 ≡ high = omega arith in
    let r : bits_of high low % 2 ^ 64 ≡ low = omega arith in
    rw (q, r) refl

fields-at : (b : Bool) (high low : ℕ) → IsWithin b (bits_of high low) → low < 2 ^ 64 → fields (number_of b (bits_of high low)) ≡ record { upper = b; high = high; low = low }
fields-at true high low w h = fields_of-bits true high low h
fields-at false high low w h =
    let e : 2 ^ 127 - 1 - (2 ^ 127 - 1 - bits_of high low) ≡ bits_of high low = omega arith in
    ap (λ k. fields_of false k) e ∙ fields_of-bits false high low h

pub fields-number : (a : Inside) → IsWhole a → fields (number a) ≡ a
fields-number a h = fields-at a.upper a.high a.low h.0 h.1
