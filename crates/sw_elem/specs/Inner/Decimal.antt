-- The numerals that may bear a sign.
use Rattle.std.specs.Prelude.{◌≡◌, ℤ, Bool, Option, Some, None, ℕ, List, FitsSigned}
use Rattle.std.specs.Int.{w128}
use Rattle.std.specs.Str.Parse.{IsNumeral, without_leading_sign, signed_digits_value}
use Rattle.sw_elem.specs.Integer.{IsWide}

-- the number exactly where there is one of 128 bits
abbrev pub IsSpelled : Bool → Option ℤ → Option ℤ → Type 0
IsSpelled signed (Some n) r = r ≡ Some n
IsSpelled signed None r = (n : ℤ) → r ≡ Some n → IsWide signed n → ⊥

-- digits before which a sign may stand, of that value, which 128 bits hold
pub record IsSignedNumeral (s : List ℕ) (n : ℤ) : Type 0 where
  pub digits : IsNumeral 10 (without_leading_sign s)
  pub value : n ≡ signed_digits_value 10 s
  pub fits : FitsSigned w128 n
