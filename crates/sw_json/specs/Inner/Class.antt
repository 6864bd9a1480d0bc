-- What the code's classes of bytes stand for.
use Rattle.std.specs.Prelude.{ℕ, Bool}
use Rattle.sw_json.specs.Bytes.{is_blank, is_digit, is_number_byte}
use Rattle.sw_json.specs.declared.class.Class.{Class}
use Rattle.sw_json.specs.declared.class.Class.TheVariants.{Blank, Digit, NumberByte}

abbrev pub test_of : Class → ℕ → Bool
test_of Blank b = is_blank b
test_of Digit b = is_digit b
test_of NumberByte b = is_number_byte b
