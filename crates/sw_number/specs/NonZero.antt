-- Whole numbers but 0.
use Rattle.std.specs.Prelude.{ℤ, pos, Bool, true, not, ◌&&◌, ◌≡◌, Option, Some, None, if◌then◌else◌}
use Rattle.std.specs.Ordering.{int_eq}
use Rattle.sw_tree.specs.LeafRanks.{number_of}
use Rattle.sw_tree.specs.Meaning.{Meaning}

abbrev pub is_nonzero : ℤ → Bool
is_nonzero n = not (int_eq n (pos 0))

-- the type's range without 0
abbrev pub nonzero_fits : (ℤ → Bool) → ℤ → Bool
nonzero_fits fits n = fits n && is_nonzero n

-- a number of the type that isn't 0
abbrev pub IsNonZeroOf : (Meaning → Type 0) → Meaning → Type 0
IsNonZeroOf P v = P v × (is_nonzero (number_of v) ≡ true)

-- the number, where it isn't 0
abbrev pub unless_zero : Meaning → Option Meaning
unless_zero v = if is_nonzero (number_of v) then Some v else None
