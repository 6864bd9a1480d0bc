-- Digits by tests on bytes.
use Rattle.std.specs.Prelude.{◌≡◌, ℕ, ◌<◌, ◌^◌, List, true}
use Rattle.std.specs.List.{list_all}
use Rattle.std.specs.Str.Parse.{digits_value}
use Rattle.sw_tree.specs.Number.{is_digit, is_int}
use Rattle.sw_tree.specs.Laws.Number.{value_of}

-- digits alone, of a value below 2^128
pub record AreWide (ds : List ℕ) : Type 0 where
  pub digits : list_all is_digit ds ≡ true
  pub small : value_of ds < 2 ^ 128

-- an int, of a value below 2^128
pub record IsWideInt (ds : List ℕ) : Type 0 where
  pub int : is_int ds ≡ true
  pub small : digits_value 10 ds < 2 ^ 128
