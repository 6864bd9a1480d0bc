-- The groups of a length that has more than one.
use Rattle.std.proofs.Common.{◌≡◌, ◌≢◌, ◌≤◌, ℕ, [], ◌∷◌, ◌++◌, ◌+◌, ◌-◌, ◌/◌, ◌%◌, zero, suc, refl, arith}
use Rattle.std.proofs.lemmas.Bool.{le-ltb}
use Rattle.sw_compact.specs.Lengths.{groups}

-- a group below it that isn't the last, and then those of what is above
pub groups-more : (m n : ℕ) → m ≢ 0 → 128 ≤ n → groups m n ≡ ((128 + n % 128) ∷ []) ++ groups (m - 1) (n / 128)
groups-more zero n some h = absurd (some refl)
groups-more (suc m) n some h =
    let e : suc m - 1 ≡ m = omega arith in
    rw (le-ltb n 128 h, e) refl
