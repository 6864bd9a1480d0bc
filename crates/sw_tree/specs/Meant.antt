-- The meanings of std's values.
use Rattle.std.specs.Prelude.{ℕ, pos, ◌<◌, FitsSigned, String, string_bytes, ◌≡◌, true, Option, Some, None, zero, suc, List, map, length, [], ◌∷◌, Result, Ok, Err}
use Rattle.std.specs.Int.{Width}
use Rattle.std.specs.Char.{encode_utf8, IsScalar}
use Rattle.std.specs.Str.{is_utf8}
use Rattle.std.specs.declared.alloc.Global.{Global}
use Rattle.std.specs.declared.ops.Bound.{Bound}
use Rattle.std.specs.declared.ops.Bound.TheVariants.{Included, Excluded, Unbounded}
use Rattle.sw_tree.specs.Meaning.{Meaning, nothing, truth, number, text, case, list, meanings, parts, no_meanings, meaning, Meanings}
use Rattle.sw_tree.specs.Steps.{Each}
use Rattle.sw_tree.specs.Number.{IsInRange}

-- ---- (), truth values and numbers
abbrev pub IsNothing : Meaning → Type 0
IsNothing nothing = Unit {0}
IsNothing _ = ⊥

abbrev pub IsTruth : Meaning → Type 0
IsTruth (truth b) = Unit {0}
IsTruth _ = ⊥

abbrev pub unsigned_meaning : ℕ → Meaning
unsigned_meaning n = number (pos n)

-- a number from 0 to below the limit
abbrev pub IsBelow : ℕ → Meaning → Type 0
IsBelow limit (number (pos n)) = n < limit
IsBelow limit _ = ⊥

-- a number that has so many bits with its sign
abbrev pub IsSigned : Width → Meaning → Type 0
IsSigned w (number z) = FitsSigned w z
IsSigned w _ = ⊥

-- a number from -2^127 to 2^128 - 1
abbrev pub IsWholeNumber : Meaning → Type 0
IsWholeNumber (number z) = IsInRange z
IsWholeNumber _ = ⊥

-- ---- texts
abbrev pub text_meaning : String Global → Meaning
text_meaning s = text (string_bytes s)

abbrev pub IsText : Meaning → Type 0
IsText (text s) = is_utf8 s ≡ true
IsText _ = ⊥

-- a character means its text
abbrev pub char_meaning : ℕ → Meaning
char_meaning c = text (encode_utf8 c)

-- the text of one character
abbrev pub IsCharText : Meaning → Type 0
IsCharText (text s) = (c : ℕ) × IsScalar c × (s ≡ encode_utf8 c)
IsCharText _ = ⊥

-- ---- options
abbrev pub option_meaning : {T : Type 0} → (T → Meaning) → Option T → Meaning
option_meaning f None = case 0 nothing
option_meaning f (Some x) = case 1 (f x)

abbrev pub IsOptionOf : (Meaning → Type 0) → Meaning → Type 0
IsOptionOf P (case zero nothing) = Unit {0}
IsOptionOf P (case (suc zero) v) = P v
IsOptionOf P _ = ⊥

-- ---- lists, arrays and pairs
abbrev pub list_meaning : {T : Type 0} → (T → Meaning) → List T → Meaning
list_meaning f xs = list (meanings (map f xs))

abbrev pub IsListOf : (Meaning → Type 0) → Meaning → Type 0
IsListOf P (list vs) = Each P (parts vs)
IsListOf P _ = ⊥

-- a list of so many
abbrev pub IsArrayOf : (Meaning → Type 0) → ℕ → Meaning → Type 0
IsArrayOf P n (list vs) = Each P (parts vs) × (length (parts vs) ≡ n)
IsArrayOf P n _ = ⊥

abbrev pub pair : Meaning → Meaning → Meaning
pair a b = list (meaning a (meaning b no_meanings))

abbrev pub pair_meaning : {A B : Type 0} → (A → Meaning) → (B → Meaning) → A × B → Meaning
pair_meaning f g p = pair (f p.0) (g p.1)

abbrev pub IsPairOf : (Meaning → Type 0) → (Meaning → Type 0) → Meaning → Type 0
IsPairOf P Q (list (meaning a (meaning b no_meanings))) = P a × Q b
IsPairOf P Q _ = ⊥

-- ---- rows: so many meanings, each of its own kind
abbrev pub row : List Meaning → Meaning
row vs = list (meanings vs)

abbrev pub AreOf : List (Meaning → Type 0) → Meanings → Type 0
AreOf [] no_meanings = Unit {0}
AreOf (P ∷ Ps) (meaning v vs) = P v × AreOf Ps vs
AreOf _ _ = ⊥

abbrev pub IsRowOf : List (Meaning → Type 0) → Meaning → Type 0
IsRowOf Ps (list vs) = AreOf Ps vs
IsRowOf Ps _ = ⊥

-- ---- results and the ends of ranges
abbrev pub result_meaning : {T E : Type 0} → (T → Meaning) → (E → Meaning) → Result T E → Meaning
result_meaning f g (Ok x) = case 0 (f x)
result_meaning f g (Err e) = case 1 (g e)

abbrev pub IsResultOf : (Meaning → Type 0) → (Meaning → Type 0) → Meaning → Type 0
IsResultOf P Q (case zero v) = P v
IsResultOf P Q (case (suc zero) v) = Q v
IsResultOf P Q _ = ⊥

abbrev pub bound_meaning : {T : Type 0} → (T → Meaning) → Bound T → Meaning
bound_meaning f (Included x) = case 0 (f x)
bound_meaning f (Excluded x) = case 1 (f x)
bound_meaning f Unbounded = case 2 nothing

abbrev pub IsBoundOf : (Meaning → Type 0) → Meaning → Type 0
IsBoundOf P (case zero v) = P v
IsBoundOf P (case (suc zero) v) = P v
IsBoundOf P (case (suc (suc zero)) nothing) = Unit {0}
IsBoundOf P _ = ⊥
