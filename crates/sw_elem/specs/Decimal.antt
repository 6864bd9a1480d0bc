-- The texts of whole numbers.
use Rattle.std.specs.Prelude.{ℕ, List, [], nat_lt, Bool, ◌&&◌, length, ℤ, pos, true, false, if◌then◌else◌, Option, Some, None}
use Rattle.std.specs.Fmt.{signed_decimal}
use Rattle.std.specs.Option.{option_and_then}
use Rattle.std.specs.Str.{all_ascii_digits}
use Rattle.std.specs.Str.Parse.{digits_value, without_leading_plus, without_leading_sign, signed_digits_value}
use Rattle.sw_tree.specs.Meaning.{Meaning, number}
use Rattle.sw_elem.specs.Numbers.{ranged, is_below, is_within}

-- in decimal, with a minus before a negative one
abbrev pub decimal_shows : Meaning → List ℕ
decimal_shows (number n) = signed_decimal n
decimal_shows _ = []

-- one or more ASCII digits
abbrev pub is_numeral : List ℕ → Bool
is_numeral ds = nat_lt 0 (length ds) && all_ascii_digits ds

-- the number of such digits, before which a plus may stand, and a minus too where the type has a sign
unfoldable pub decimal_value : Bool → List ℕ → Option ℤ
decimal_value false s = if is_numeral (without_leading_plus s) then Some (pos (digits_value 10 (without_leading_plus s))) else None
decimal_value true s = if is_numeral (without_leading_sign s) then Some (signed_digits_value 10 s) else None

-- that number, in the type's range
abbrev pub decimal_parses : Bool → (ℤ → Bool) → List ℕ → Option Meaning
decimal_parses signed fits s = option_and_then (ranged fits) (decimal_value signed s)

-- the same from 0 to below the limit
abbrev pub unsigned_parses : ℕ → List ℕ → Option Meaning
unsigned_parses limit = decimal_parses false (is_below limit)

-- and from minus the limit to below the limit
abbrev pub signed_parses : ℕ → List ℕ → Option Meaning
signed_parses limit = decimal_parses true (is_within limit)
