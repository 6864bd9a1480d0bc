-- What a type of whole numbers keeps: it holds the numbers of a range, each as itself.
use Rattle.std.specs.Prelude.{◌<◌, ◌^◌, ℤ, pos, negsuc, Bool, true, false, FitsSigned, ◌≡◌}
use Rattle.std.specs.Int.{w128}
use Rattle.sw_tree.specs.Meaning.{Meaning, number}

-- a number of 128 bits, one of them its sign where it has one
abbrev pub IsWide : Bool → ℤ → Type 0
IsWide true n = FitsSigned w128 n
IsWide false (pos n) = n < 2 ^ 128
IsWide false (negsuc n) = ⊥

-- the type's meanings are the numbers that fit, which 128 bits hold
pub record IsInteger (signed : Bool) (fits : ℤ → Bool) (P : Meaning → Type 0) : Type 0 where
  pub numbers : (v : Meaning) → P v → (n : ℤ) × (v ≡ number n) × (fits n ≡ true)
  pub meanings : (n : ℤ) → fits n ≡ true → P (number n)
  pub wide : (n : ℤ) → fits n ≡ true → IsWide signed n
