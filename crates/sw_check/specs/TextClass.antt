-- Classes of texts.
use Rattle.std.specs.Prelude.{ℕ, ◌^◌, ◌<◌, nat_lt, Bool, true, false, not, ◌||◌, ◌&&◌, ◌==◌, ◌≡◌, List, length, if◌then◌else◌, fold, bit_and, bit_or}
use Rattle.std.specs.Int.{bit_at}
use Rattle.std.specs.List.{list_all}
use Rattle.sw_check.specs.declared.class.TextClass.{TextClass}

-- whether the byte may occur in a text of the class
abbrev pub admits : TextClass → ℕ → Bool
admits c b = if nat_lt b 128 then bit_at c.ascii b == 1 else c.other

-- a text of the class
pub record IsOfClass (c : TextClass) (text : List ℕ) : Type 0 where
  pub filled : c.never_empty ≡ true → 0 < length text
  pub bytes : list_all (admits c) text ≡ true

-- the class in which this byte may occur too
abbrev pub with_byte : TextClass → ℕ → TextClass
with_byte c b = if nat_lt b 128 then record c { ascii = bit_or c.ascii (2 ^ b) } else record c { other = true }

-- the class of a text's bytes
abbrev pub class_of : List ℕ → TextClass
class_of text = fold with_byte (record { never_empty = nat_lt 0 (length text); ascii = 0; other = false }) text

-- a byte may occur in texts of both classes: they have a bit in common, or both have bytes from 128 on
abbrev pub shares_byte : TextClass → TextClass → Bool
shares_byte c s = not (bit_and c.ascii s.ascii == 0) || (c.other && s.other)
