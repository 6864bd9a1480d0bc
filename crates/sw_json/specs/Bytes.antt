-- Classes of bytes, and runs of bytes.
use Rattle.std.specs.Prelude.{ℕ, Bool, ◌||◌, ◌==◌, not, ◌&&◌, nat_le, ◌≡◌, List, [], ◌∷◌, false, if◌then◌else◌, Option, Some, None}
-- DIGIT and digit1-9, section 6
unfoldable pub use Rattle.sw_tree.specs.Number.{is_digit, is_leading}

-- ws (RFC 8259, section 2): a space, a tab, a line feed or a carriage return
unfoldable pub is_blank : ℕ → Bool
is_blank b = (b == 32) || (b == 9) || (b == 10) || (b == 13)

-- what a number is made of, section 6: digits, signs, a point, and the letters e and E
unfoldable pub is_number_byte : ℕ → Bool
is_number_byte b = is_digit b || (b == 43) || (b == 45) || (b == 46) || (b == 69) || (b == 101)

-- unescaped, section 7: a byte of a character that isn't below a space, a quotation mark or a backslash
unfoldable pub is_plain : ℕ → Bool
is_plain b = nat_le 32 b && not ((b == 34) || (b == 92))

-- none that passes follows
abbrev pub Stops : (ℕ → Bool) → List ℕ → Type 0
Stops p [] = Unit {0}
Stops p (b ∷ bs) = p b ≡ false

-- the longest front of bytes that pass, and what is behind it
abbrev pub front : (ℕ → Bool) → List ℕ → List ℕ
front p [] = []
front p (b ∷ bs) = if p b then b ∷ front p bs else []

abbrev pub behind : (ℕ → Bool) → List ℕ → List ℕ
behind p [] = []
behind p (b ∷ bs) = if p b then behind p bs else b ∷ bs

-- what follows the word, where the bytes begin with it
abbrev pub behind_word : List ℕ → List ℕ → Option (List ℕ)
behind_word [] bytes = Some bytes
behind_word (w ∷ ws) [] = None
behind_word (w ∷ ws) (b ∷ bs) = if b == w then behind_word ws bs else None
