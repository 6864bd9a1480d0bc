-- Which texts the named patterns match, byte by byte.
use Rattle.std.specs.Prelude.{ℕ, Bool, true, false, not, ◌&&◌, ◌||◌, ◌==◌, nat_le, List, [], ◌∷◌, if◌then◌else◌}
use Rattle.sw_schema.specs.declared.pattern.Pattern.{Pattern}
use Rattle.sw_schema.specs.declared.pattern.Pattern.TheVariants as pattern

-- ---- hex: ^(?:[0-9A-Fa-f]{2})*$

abbrev pub is_digit : ℕ → Bool
is_digit b = nat_le 48 b && nat_le b 57

abbrev pub is_hex_digit : ℕ → Bool
is_hex_digit b = is_digit b || ((nat_le 65 b && nat_le b 70) || (nat_le 97 b && nat_le b 102))

-- hex digits up to the end, where there are evenly many with those that stand before
abbrev pub are_pairs : Bool → List ℕ → Bool
are_pairs even [] = even
are_pairs even (b ∷ s) = is_hex_digit b && are_pairs (not even) s

abbrev pub is_hex : List ℕ → Bool
is_hex s = are_pairs true s

-- ---- time: ^[0-9]+(\.[0-9]+)?([eE][+-]?[0-9]+)?$

-- digits up to the end; `some` says that one stands before
abbrev pub some_digits : Bool → List ℕ → Bool
some_digits some [] = some
some_digits some (d ∷ s) = is_digit d && some_digits true s

abbrev pub is_sign : ℕ → Bool
is_sign b = (b == 43) || (b == 45)

-- what stands behind the letter of an exponent
abbrev pub signed_digits : List ℕ → Bool
signed_digits [] = false
signed_digits (b ∷ s) = if is_sign b then some_digits false s else some_digits false (b ∷ s)

abbrev pub is_e : ℕ → Bool
is_e b = (b == 101) || (b == 69)

-- what stands behind the point: digits, then an exponent or the end
abbrev pub fraction : Bool → List ℕ → Bool
fraction some [] = some
fraction some (b ∷ s) = if is_digit b then fraction true s else some && (is_e b && signed_digits s)

-- digits, then a point and a fraction, an exponent or the end
abbrev pub is_time : Bool → List ℕ → Bool
is_time some [] = some
is_time some (b ∷ s) = if is_digit b then is_time true s else some && ((is_e b && signed_digits s) || ((b == 46) && fraction false s))

-- ---- signed time: ^-?[0-9]+(\.[0-9]+)?([eE][+-]?[0-9]+)?$

abbrev pub is_signed_time : List ℕ → Bool
is_signed_time [] = false
is_signed_time (b ∷ s) = if b == 45 then is_time false s else is_time false (b ∷ s)

abbrev pub matches : Pattern → List ℕ → Bool
matches pattern.Hex s = is_hex s
matches pattern.Time s = is_time false s
matches pattern.SignedTime s = is_signed_time s
