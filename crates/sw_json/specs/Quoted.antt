-- The spelling of a text between its quotation marks, by RFC 8259, section 7.
use Rattle.std.specs.Prelude.{ℕ, Bool, ◌||◌, ◌==◌, if◌then◌else◌, ◌&&◌, ◌+◌, ◌*◌, ◌≡◌, true, false, List, [], ◌∷◌, ◌++◌, Option, Some, None, option_and_then, option_map, zero, suc, ◌-◌, length, take}
use Rattle.std.specs.Char.{is_digit, digit_value, encode_utf8}
use Rattle.std.specs.Char.Utf16.{is_high_surrogate, is_low_surrogate, surrogate_pair_char}
use Rattle.std.specs.Str.{IsUtf8, is_utf8}
use Rattle.sw_json.specs.Bytes.{is_plain}

-- 4HEXDIG: four hexadecimal digits, of either case
pub data Hex : Type 0 where
  hex : ℕ → ℕ → ℕ → ℕ → Hex

-- char: what a text is spelled by
pub data Piece : Type 0 where
  -- unescaped: a byte of a character that stands for itself
  plain : ℕ → Piece
  -- a backslash and one more character
  short : ℕ → Piece
  -- \u and the code of a character
  unit : Hex → Piece
  -- \u and a high surrogate, \u and a low one: the two UTF-16 units of a character
  pair : Hex → Hex → Piece

-- what stands behind a backslash alone: " \ / b f n r t
unfoldable pub is_short : ℕ → Bool
is_short b = (b == 34) || (b == 92) || (b == 47) || (b == 98) || (b == 102) || (b == 110) || (b == 114) || (b == 116)

-- the character that it stands for there: backspace, form feed, line feed, carriage return, tab, or itself
unfoldable pub short_character : ℕ → ℕ
short_character b = if b == 98 then 8 else (if b == 102 then 12 else (if b == 110 then 10 else (if b == 114 then 13 else (if b == 116 then 9 else b))))

unfoldable pub are_hex : Hex → Bool
are_hex (hex a b c d) = is_digit a 16 && is_digit b 16 && is_digit c 16 && is_digit d 16

unfoldable pub code : Hex → ℕ
code (hex a b c d) = digit_value a * 4096 + digit_value b * 256 + digit_value c * 16 + digit_value d

-- Each surrogate belongs to a pair: of the others the RFC says that what they stand for is unpredictable, and here no text has one.
abbrev pub IsPiece : Piece → Type 0
IsPiece (plain b) = is_plain b ≡ true
IsPiece (short b) = is_short b ≡ true
IsPiece (unit h) = (are_hex h ≡ true) × (is_high_surrogate (code h) ≡ false) × (is_low_surrogate (code h) ≡ false)
IsPiece (pair h l) = (are_hex h ≡ true) × (is_high_surrogate (code h) ≡ true) × (are_hex l ≡ true) × (is_low_surrogate (code l) ≡ true)

-- the bytes that the piece stands for
abbrev pub meaning : Piece → List ℕ
meaning (plain b) = b ∷ []
meaning (short b) = encode_utf8 (short_character b)
meaning (unit h) = encode_utf8 (code h)
meaning (pair h l) = encode_utf8 (surrogate_pair_char (code h) (code l))

-- the bytes of the digits, of the piece and of the pieces, and then the rest
abbrev pub spelled_hex : Hex → List ℕ → List ℕ
spelled_hex (hex a b c d) k = a ∷ b ∷ c ∷ d ∷ k

abbrev pub spelled : Piece → List ℕ → List ℕ
spelled (plain b) k = b ∷ k
spelled (short b) k = 92 ∷ b ∷ k
spelled (unit h) k = 92 ∷ 117 ∷ spelled_hex h k
spelled (pair h l) k = 92 ∷ 117 ∷ spelled_hex h (92 ∷ 117 ∷ spelled_hex l k)

abbrev pub spelling_of : List Piece → List ℕ → List ℕ
spelling_of [] k = k
spelling_of (p ∷ ps) k = spelled p (spelling_of ps k)

abbrev pub ArePieces : List Piece → Type 0
ArePieces [] = Unit {0}
ArePieces (p ∷ ps) = IsPiece p × ArePieces ps

abbrev pub meanings : List Piece → List ℕ
meanings [] = []
meanings (p ∷ ps) = meaning p ++ meanings ps

-- Between two quotation marks, the first list of bytes spells the text of the second (its UTF-8: section 8.1).
pub record IsQuoted (spelling text : List ℕ) : Type 0 where
  pub pieces : List Piece
  pub lawful : ArePieces pieces
  pub spells : spelling ≡ spelling_of pieces []
  pub means : text ≡ meanings pieces
  pub is_text : IsUtf8 text

-- whether a backslash stands in the spelling
abbrev pub has_escape : List ℕ → Bool
has_escape [] = false
has_escape (b ∷ bs) = (b == 92) || has_escape bs

-- ---- the same, computed: each of these answers with what is behind it
-- the code of four digits
abbrev pub hex_at : List ℕ → Option (ℕ × List ℕ)
hex_at (a ∷ b ∷ c ∷ d ∷ k) = if are_hex (hex a b c d) then Some (code (hex a b c d), k) else None
hex_at bs = None

-- the character whose high surrogate is given, by its low surrogate
abbrev pub if_low : ℕ → ℕ × List ℕ → Option (ℕ × List ℕ)
if_low high x = if is_low_surrogate x.0 then Some (surrogate_pair_char high x.0, x.1) else None

abbrev pub low_at : ℕ → List ℕ → Option (ℕ × List ℕ)
low_at high (s ∷ u ∷ k) = if (s == 92) && (u == 117) then option_and_then (if_low high) (hex_at k) else None
low_at high bs = None

-- the character behind \u
abbrev pub if_unit : ℕ × List ℕ → Option (ℕ × List ℕ)
if_unit x = if is_high_surrogate x.0 then low_at x.0 x.1 else (if is_low_surrogate x.0 then None else Some x)

abbrev pub unit_at : List ℕ → Option (ℕ × List ℕ)
unit_at bs = option_and_then if_unit (hex_at bs)

-- the character behind a backslash
unfoldable pub escape_at : List ℕ → Option (ℕ × List ℕ)
escape_at [] = None
escape_at (x ∷ bs) = if x == 117 then unit_at bs else (if is_short x then Some (short_character x, bs) else None)

-- what a piece stands for
unfoldable pub piece_at : List ℕ → Option (List ℕ × List ℕ)
piece_at [] = None
piece_at (b ∷ bs) = if b == 92 then option_map (λ x. (encode_utf8 x.0, x.1)) (escape_at bs) else (if is_plain b then Some (b ∷ [], bs) else None)

-- a closing quotation mark
abbrev pub at_quote : List ℕ → Option (List ℕ)
at_quote [] = None
at_quote (q ∷ rest) = if q == 34 then Some rest else None

abbrev pub quote_or : Option (List ℕ) → Option (List ℕ × List ℕ) → Option (List ℕ × List ℕ)
quote_or None r = r
quote_or (Some rest) r = Some ([], rest)

abbrev pub before : List ℕ → Option (List ℕ × List ℕ) → Option (List ℕ × List ℕ)
before s r = option_map (λ x. (s ++ x.0, x.1)) r

-- what no more than that many pieces stand for, up to a closing quotation mark
unfoldable pub content : ℕ → List ℕ → Option (List ℕ × List ℕ)
content zero bytes = quote_or (at_quote bytes) None
content (suc n) bytes = quote_or (at_quote bytes) (option_and_then (λ x. before x.0 (content n x.1)) (piece_at bytes))

abbrev pub with_spelling : List ℕ → List ℕ × List ℕ → Option (List ℕ × (List ℕ × List ℕ))
with_spelling bytes x = if is_utf8 x.0 then Some (take (length bytes - length x.1 - 1) bytes, x) else None

-- the spelling of the text that is closed in these bytes, the text, and what is behind its closing quotation mark
unfoldable pub quoted : List ℕ → Option (List ℕ × (List ℕ × List ℕ))
quoted bytes = option_and_then (with_spelling bytes) (content (length bytes) bytes)
