-- Parts of a text that are spelled by themselves.
use Rattle.std.specs.Prelude.{◌≡◌, ℕ, ◌<◌, ◌≤◌, List, get_or, true, Bool, ◌&&◌, nat_lt}
use Rattle.sw_json.specs.Bytes.{is_plain}

-- the bytes from one place up to another stand for themselves
abbrev pub ArePlain : List ℕ → ℕ → ℕ → Type 0
ArePlain bytes from to = (k : ℕ) → from ≤ k → k < to → is_plain (get_or bytes k 0) ≡ true

-- a byte that stands for itself, and is a whole character
abbrev pub is_plain_ascii : ℕ → Bool
is_plain_ascii b = is_plain b && nat_lt b 128
