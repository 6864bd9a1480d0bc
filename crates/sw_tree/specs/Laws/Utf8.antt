-- The texts of whole numbers and truth values are UTF-8.
use Rattle.std.specs.Prelude.{ℕ, ◌<◌, ◌^◌, codes, suc, ℤ, pos, negsuc, Bool, true, false}
use Rattle.std.specs.Fmt.{decimal, signed_decimal}
use Rattle.std.specs.Str.{IsUtf8}
use Rattle.std.proofs.Common.{arith, refl}
use Rattle.std.proofs.lemmas.Fmt.{IsAscii-decimal_wide}
use Rattle.std.proofs.lemmas.Str.{IsUtf8-from_ascii, IsUtf8-append}
use Rattle.sw_tree.specs.Image.{bool_text}
use Rattle.sw_tree.specs.Number.{IsInRange}

pub decimal-utf8 : (n : ℕ) → n < 10 ^ 64 → IsUtf8 (decimal n)
decimal-utf8 n h = IsUtf8-from_ascii (decimal n) (IsAscii-decimal_wide n (omega (arith, h)))

minus-utf8 : IsUtf8 (codes "-")
unfolding lib.Utf8.encode
minus-utf8 = (codes "-", (refl, refl))

pub signed_decimal-utf8 : (n : ℤ) → IsInRange n → IsUtf8 (signed_decimal n)
signed_decimal-utf8 (pos n) h = decimal-utf8 n (omega (arith, h))
signed_decimal-utf8 (negsuc n) h = IsUtf8-append (codes "-") (decimal (suc n)) minus-utf8 (decimal-utf8 (suc n) (omega (arith, h)))

pub bool_text-utf8 : (b : Bool) → IsUtf8 (bool_text b)
unfolding lib.Utf8.encode
bool_text-utf8 true = (codes "true", (refl, refl))
bool_text-utf8 false = (codes "false", (refl, refl))
