-- A number that fits is that number.
use Rattle.std.proofs.Common.{◌≡◌, ◌^◌, ◌∷◌, ℕ, ℤ, pos, negsuc, Bool, true, false, Some, None, ap, ◌∙◌, arith}
use Rattle.std.proofs.lemmas.Int.{ints, to_z-of_z}
use Rattle.std.proofs.Math.IntN.{nat_abs}
use Rattle.std.specs.Int.{w128}
use lib.Signed.{le_z}
use mir.Val.{SFits, of_z, to_z}
use Rattle.std.specs.Prelude.{if◌then◌else◌, nat_lt, ◌-ℤ◌}
use Rattle.sw_tree.specs.Whole.{signed_of}
use Rattle.sw_compact.specs.Inner.Appended.{number_bytes}
use Rattle.sw_compact.specs.Numbers.{counted}

where_fit : (b : Bool) (w z : ℤ) → Some w ≡ (if b then Some z else None) → w ≡ z
where_fit true w z h = cc
where_fit false w z h = cc

pub signed-is : (k : ℕ) (w z : ℤ) → Some w ≡ signed_of k z → w ≡ z
signed-is k w (pos n) h = where_fit (nat_lt n (2 ^ k)) w (pos n) h
signed-is k w (negsuc n) h = where_fit (nat_lt n (2 ^ k)) w (negsuc n) h

-- a number is read back from its bits
abbrev pub again : ℤ → ℤ
again z = to_z w128 (of_z w128 z)

-- a negative number -1 - m
pub negative-bytes : (z : ℤ) → SFits w128 z → le_z (pos 0) (again z) ≡ false → 4 ∷ counted (nat_abs (again (negsuc 0 -ℤ again z))) ≡ number_bytes z
negative-bytes (pos n) f h = absurd (grind (arith, ints))
negative-bytes (negsuc n) f h =
    let e : again (negsuc n) ≡ negsuc n = to_z-of_z w128 (negsuc n) f in
    let k : negsuc 0 -ℤ negsuc n ≡ pos n = omega (arith, ints) in
    let g : SFits w128 (pos n) = omega (arith, ints) in
    ap (λ x. 4 ∷ counted (nat_abs (again (negsuc 0 -ℤ x)))) e
    ∙ ap (λ x. 4 ∷ counted (nat_abs (again x))) k
    ∙ ap (λ x. 4 ∷ counted (nat_abs x)) (to_z-of_z w128 (pos n) g)
