-- What a function answers that appends bytes, or changes what stands there.
use Rattle.std.specs.Prelude.{◌≡◌, ℕ, ℤ, Bool, true, false, pos, negsuc, List, ◌∷◌, ◌++◌, Result, Ok, Err}
use Rattle.sw_tree.specs.declared.fail.SerFail.{SerFail}
use Rattle.sw_tree.specs.declared.fail.SerFail.TheVariants as ser
use Rattle.sw_compact.specs.Numbers.{counted}

-- the bytes become these; the one refusal is want of memory, and then more bytes may stand behind what was there
abbrev pub IsTurned : Result (Unit {0}) SerFail → List ℕ → List ℕ → List ℕ → Type 0
IsTurned (Ok _) before after wanted = after ≡ wanted
IsTurned (Err (ser.Unwritable e)) before after wanted = ⊥
IsTurned (Err ser.Memory) before after wanted = (more : List ℕ) × (after ≡ before ++ more)

-- these bytes are appended
abbrev pub IsAppended : Result (Unit {0}) SerFail → List ℕ → List ℕ → List ℕ → Type 0
IsAppended result before after s = IsTurned result before after (before ++ s)

-- the tag of a number's sign, and the number
abbrev pub number_bytes : ℤ → List ℕ
number_bytes (pos n) = 3 ∷ counted n
number_bytes (negsuc n) = 4 ∷ counted n

-- the tag of a list or map
abbrev pub opening_tag : Bool → ℕ
opening_tag true = 8
opening_tag false = 7

-- the tag of a truth value
abbrev pub truth_tag : Bool → ℕ
truth_tag true = 2
truth_tag false = 1
