-- How a length or a count is spelled, in each version.
use Rattle.std.specs.Prelude.{ℕ, List, [], ◌∷◌, ◌+◌, ◌/◌, ◌%◌, zero, suc, nat_lt, if◌then◌else◌}
use Rattle.std.specs.Int.{to_be_bytes, w64}
use Rattle.sw_compact.specs.declared.version.Version.{Version}
use Rattle.sw_compact.specs.declared.version.Version.TheVariants.{One, Two}

-- groups of seven bits, the lowest first, at most so many: each but the last has 128 added
abbrev pub groups : ℕ → ℕ → List ℕ
groups zero n = []
groups (suc m) n = if nat_lt n 128 then n ∷ [] else (128 + n % 128) ∷ groups m (n / 128)

-- a number below 2^64: its eight bytes, the highest first; or its groups, of which there are ten at most
abbrev pub length_bytes : Version → ℕ → List ℕ
length_bytes One n = to_be_bytes w64 n
length_bytes Two n = groups 10 n
