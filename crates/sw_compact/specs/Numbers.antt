-- How a number is spelled.
use Rattle.std.specs.Prelude.{ℕ, List, [], ◌∷◌, ◌/◌, ◌%◌, ◌==◌, zero, suc, length, if◌then◌else◌}

-- the bytes of a number that has at most so many, the highest first and not zero, and then the rest
abbrev pub digits : ℕ → ℕ → List ℕ → List ℕ
digits zero n rest = rest
digits (suc m) n rest = if n == 0 then rest else digits m (n / 256) (n % 256 ∷ rest)

-- the bytes of a number below 2^128, none for zero
abbrev pub magnitude : ℕ → List ℕ
magnitude n = digits 16 n []

-- how many bytes it has, and these
abbrev pub counted : ℕ → List ℕ
counted n = length (magnitude n) ∷ magnitude n
