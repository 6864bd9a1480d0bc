-- The number that a `Whole` holds.
use Rattle.std.specs.Prelude.{ℕ, ◌/◌, ◌%◌, ◌^◌, Bool, ◌-◌, ℤ, pos, negsuc, true, false, Option, Some, None, nat_lt, if◌then◌else◌}
use Rattle.sw_tree.specs.declared.whole.Whole.TheInside.{Inside}

abbrev pub fields_of : Bool → ℕ → Inside
fields_of upper bits = record { upper = upper; high = bits / 2 ^ 64; low = bits % 2 ^ 64 }

abbrev pub fields : ℤ → Inside
fields (pos n) = fields_of true n
fields (negsuc n) = fields_of false (2 ^ 127 - 1 - n)

-- the number, where it isn't negative
abbrev pub natural_of : ℤ → Option ℕ
natural_of (pos n) = Some n
natural_of (negsuc n) = None

-- the number, where it is at least -2^k and below 2^k
abbrev pub signed_of : ℕ → ℤ → Option ℤ
signed_of k (pos n) = if nat_lt n (2 ^ k) then Some (pos n) else None
signed_of k (negsuc n) = if nat_lt n (2 ^ k) then Some (negsuc n) else None
