-- Which bytes spell a token, a list of tokens, and a raw tree (RFC 8259).
use Rattle.std.specs.Prelude.{◌≡◌, ℕ, ◌⊎◌, List, [], ◌∷◌, true, ◌-◌, ◌++◌, codes, false, length, ◌+◌}
use Rattle.std.specs.List.{list_all}
use Rattle.sw_json.specs.Bytes.{is_digit, is_leading, is_number_byte, Stops, is_blank, behind}
use Rattle.sw_json.specs.Quoted.{IsQuoted}
use Rattle.sw_json.specs.Token.{Token}
use Rattle.sw_json.specs.Raw.{Raw, tokens}

-- int, section 6: zero, or digits of which the first isn't zero
abbrev pub IsInt : List ℕ → Type 0
IsInt [] = ⊥
IsInt (d ∷ ds) = ((d ≡ 48) × (ds ≡ [])) ⊎ ((is_leading d ≡ true) × (list_all is_digit ds ≡ true))

-- 1*DIGIT, section 6: digits, of which there is at least one
abbrev pub AreDigits : List ℕ → Type 0
AreDigits [] = ⊥
AreDigits (d ∷ ds) = (is_digit d ≡ true) × (list_all is_digit ds ≡ true)

-- [ frac ], section 6: nothing, or a point and digits
abbrev pub IsFraction : List ℕ → Type 0
IsFraction [] = Unit {0}
IsFraction (b ∷ ds) = (b ≡ 46) × AreDigits ds

-- digits, with a plus or a minus before them
abbrev pub AreSigned : List ℕ → Type 0
AreSigned [] = ⊥
AreSigned (b ∷ ds) = ((b ≡ 43) ⊎ (b ≡ 45)) × AreDigits ds

-- [ exp ], section 6: nothing, or the letter e or E and digits, with a sign before them or not
abbrev pub IsExponent : List ℕ → Type 0
IsExponent [] = Unit {0}
IsExponent (b ∷ bs) = ((b ≡ 101) ⊎ (b ≡ 69)) × (AreDigits bs ⊎ AreSigned bs)

-- number, section 6
pub record IsNumber (s : List ℕ) : Type 0 where
  pub sign : List ℕ
  pub int : List ℕ
  pub fraction : List ℕ
  pub exponent : List ℕ
  pub parts : s ≡ sign ++ (int ++ (fraction ++ exponent))
  pub is_sign : (sign ≡ []) ⊎ (sign ≡ codes "-")
  pub is_int : IsInt int
  pub is_fraction : IsFraction fraction
  pub is_exponent : IsExponent exponent

-- The token stands at the front of the bytes, from this offset on, and the rest follows it.
-- No byte that a number is made of follows a number: none may.
abbrev pub Front : ℕ → List ℕ → Token → List ℕ → Type 0
-- section 3
Front off bytes (Token.null at) rest = (at ≡ off) × (bytes ≡ codes "null" ++ rest)
Front off bytes (Token.truth at true) rest = (at ≡ off) × (bytes ≡ codes "true" ++ rest)
Front off bytes (Token.truth at false) rest = (at ≡ off) × (bytes ≡ codes "false" ++ rest)
-- section 6
Front off bytes (Token.number at s) rest = (at ≡ off) × IsNumber s × Stops is_number_byte rest × (bytes ≡ s ++ rest)
-- section 7
Front off bytes (Token.text q) rest = (q.at ≡ off) × IsQuoted q.spelling q.text × (bytes ≡ 34 ∷ q.spelling ++ 34 ∷ rest)
-- section 2
Front off bytes (Token.open_list at) rest = (at ≡ off) × (bytes ≡ codes "[" ++ rest)
Front off bytes Token.close_list rest = bytes ≡ codes "]" ++ rest
Front off bytes (Token.open_map at) rest = (at ≡ off) × (bytes ≡ codes "{" ++ rest)
Front off bytes Token.close_map rest = bytes ≡ codes "}" ++ rest
Front off bytes Token.comma rest = bytes ≡ codes "," ++ rest
Front off bytes Token.colon rest = bytes ≡ codes ":" ++ rest

-- the bytes without the blanks in front
abbrev pub skip : List ℕ → List ℕ
skip bytes = behind is_blank bytes

-- The bytes, which end at this offset, are these tokens, with blanks among them (section 2).
abbrev pub Lexes : ℕ → List ℕ → List Token → Type 0
Lexes end bytes [] = skip bytes ≡ []
Lexes end bytes (t ∷ ts) = (rest : List ℕ) × Front (end - length (skip bytes)) (skip bytes) t rest × Lexes end rest ts

-- the bytes, from this offset on, spell the tree
abbrev pub Spells : ℕ → List ℕ → Raw → Type 0
Spells off bytes raw = Lexes (off + length bytes) bytes (tokens raw [])
