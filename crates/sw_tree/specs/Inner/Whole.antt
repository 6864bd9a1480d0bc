-- The two halves in which a `Whole` holds its number.
use Rattle.std.specs.Prelude.{ℕ, ◌-◌, ◌^◌, ℤ, pos, negsuc, Bool, true, false, ◌+◌, ◌*◌, ◌<◌}
use Rattle.sw_tree.specs.declared.whole.Whole.TheInside.{Inside}

abbrev pub number_of : Bool → ℕ → ℤ
number_of true n = pos n
number_of false n = negsuc (2 ^ 127 - 1 - n)

-- the bits that two halves make
abbrev pub bits_of : ℕ → ℕ → ℕ
bits_of high low = high * 2 ^ 64 + low

abbrev pub IsWithin : Bool → ℕ → Type 0
IsWithin true n = n < 2 ^ 128
IsWithin false n = n < 2 ^ 127

abbrev pub IsWhole : Inside → Type 0
IsWhole a = IsWithin a.upper (bits_of a.high a.low) × (a.low < 2 ^ 64)
