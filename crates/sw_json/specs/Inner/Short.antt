-- A short whole number in front of bytes.
use Rattle.std.specs.Prelude.{◌≡◌, ℕ, ◌<◌, List, ◌∷◌, true, ℤ, Some}
use Rattle.sw_tree.specs.Number.{key_number}
use Rattle.sw_tree.specs.Laws.Number.{value_of}
use Rattle.sw_json.specs.Token.{Token}
use Rattle.sw_json.specs.Bytes.{is_digit, is_leading, is_number_byte, front, behind, Stops}
use Rattle.sw_json.specs.Lexing.{lexeme}

-- The digits in front are an int of that value, and no number goes on behind them.
pub record IsShortInt (bytes : List ℕ) (n : ℕ) (rest : List ℕ) : Type 0 where
  pub first : ℕ
  pub more : List ℕ
  pub digits : front is_digit bytes ≡ first ∷ more
  pub leading : is_leading first ≡ true
  pub value : n ≡ value_of (front is_digit bytes)
  pub small : n < 9000000000000000000
  pub rest_is : rest ≡ behind is_digit bytes
  pub stops : Stops is_number_byte rest

-- A number of that value is in front, with this behind it.
pub record IsShort (bytes : List ℕ) (n : ℤ) (rest : List ℕ) : Type 0 where
  pub spelling : List ℕ
  pub found : (at : ℕ) → lexeme at bytes ≡ Some (Token.number at spelling, rest)
  pub value : key_number spelling ≡ Some n
