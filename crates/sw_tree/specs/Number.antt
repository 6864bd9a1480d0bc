-- The whole number that a text spells (RFC 8259, section 6).
use Rattle.std.specs.Prelude.{ℕ, Bool, ◌&&◌, nat_le, List, [], ◌∷◌, true, false, ◌==◌, if◌then◌else◌, ℤ, pos, neg_ℤ, ◌^◌, nat_lt, Option, Some, None, ◌≡◌, ◌<◌, ◌≤◌, length, negsuc}
use Rattle.std.specs.Char.{is_ascii_digit}
use Rattle.std.specs.List.{list_all}
use Rattle.std.specs.Str.Parse.{digits_value}

-- DIGIT
unfoldable pub is_digit : ℕ → Bool
is_digit b = is_ascii_digit b

-- digit1-9
unfoldable pub is_leading : ℕ → Bool
is_leading b = nat_le 49 b && nat_le b 57

abbrev pub is_empty : List ℕ → Bool
is_empty [] = true
is_empty (b ∷ bs) = false

-- int: zero, or digits of which the first isn't zero
abbrev pub is_int : List ℕ → Bool
is_int [] = false
is_int (d ∷ ds) = if d == 48 then is_empty ds else is_leading d && list_all is_digit ds

-- a number without fraction and exponent: an int, with a minus before it or not
abbrev pub is_number : List ℕ → Bool
is_number [] = false
is_number (b ∷ bs) = if b == 45 then is_int bs else is_int (b ∷ bs)

-- the integer of digits with a minus before them or not
abbrev pub int_of : List ℕ → ℤ
int_of [] = pos 0
int_of (b ∷ bs) = if b == 45 then neg_ℤ (pos (digits_value 10 bs)) else pos (digits_value 10 (b ∷ bs))

-- it isn't minus zero, and from -2^127 to 2^128 - 1
abbrev pub is_whole : List ℕ → Bool
is_whole [] = false
is_whole (b ∷ bs) = if b == 45 then nat_lt 0 (digits_value 10 bs) && nat_le (digits_value 10 bs) (2 ^ 127) else nat_lt (digits_value 10 (b ∷ bs)) (2 ^ 128)

-- that integer, where it is one
abbrev pub whole_of : List ℕ → Option ℤ
whole_of s = if is_whole s then Some (int_of s) else None

-- the integer that a text spells, where it spells one
abbrev pub key_number : List ℕ → Option ℤ
key_number s = if is_number s then whole_of s else None

-- from one to 19 digits, and nothing else
pub record AreFew (ds : List ℕ) : Type 0 where
  pub some : 0 < length ds
  pub few : length ds ≤ 19
  pub digits : list_all is_digit ds ≡ true

-- from -2^127 to 2^128 - 1
abbrev pub IsInRange : ℤ → Type 0
IsInRange (pos n) = n < 2 ^ 128
IsInRange (negsuc n) = n < 2 ^ 127
