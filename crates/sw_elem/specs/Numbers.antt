-- Whole numbers by themselves.
use Rattle.std.specs.Prelude.{Ok, ℕ, ℤ, pos, negsuc, Bool, false, nat_lt, if◌then◌else◌, Option, Some, None, Result}
use Rattle.std.specs.Option.{ok_or}
use Rattle.sw_tree.specs.Meaning.{number, Meaning}
use Rattle.sw_tree.specs.Number.{key_number}
use Rattle.sw_tree.specs.Steps.{bind}
use Rattle.sw_tree.specs.Tree.{int_at}
use Rattle.sw_tree.specs.Tree as node
use Rattle.sw_tree.specs.declared.fail.DeError.{DeError}
use Rattle.sw_tree.specs.declared.fail.DeError.TheVariants as fail
use Rattle.sw_elem.specs.Equations.{Writes, Reads}
use Rattle.sw_elem.specs.KeyPlace.{keyed_reads}

-- the number; what no number means is free
abbrev pub number_writes : Writes
number_writes m (number n) = Ok (node.int n)
number_writes m v = Ok node.null

-- from 0 to below the limit
abbrev pub is_below : ℕ → ℤ → Bool
is_below limit (pos n) = nat_lt n limit
is_below limit (negsuc n) = false

-- from minus the limit to below the limit
abbrev pub is_within : ℕ → ℤ → Bool
is_within limit (pos n) = nat_lt n limit
is_within limit (negsuc n) = nat_lt n limit

-- the number, in the type's range
abbrev pub ranged : (ℤ → Bool) → ℤ → Option Meaning
ranged fits n = if fits n then Some (number n) else None

abbrev pub ranged_or_invalid : (ℤ → Bool) → ℤ → Result Meaning DeError
ranged_or_invalid fits n = ok_or (ranged fits n) fail.InvalidValue

-- the number that a node is or that a key's text spells, in the type's range
abbrev pub number_reads : (ℤ → Bool) → Reads
number_reads fits m t = bind (keyed_reads int_at key_number m t) (ranged_or_invalid fits)
