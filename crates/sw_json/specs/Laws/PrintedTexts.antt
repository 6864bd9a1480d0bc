-- What a text is printed as spells it.
use Rattle.std.specs.Char.{digit_char, is_digit}
use Rattle.std.specs.Char.Utf16.{is_high_surrogate, is_low_surrogate}
use Rattle.std.proofs.Common.{◌≡◌, ℕ, List, [], ◌∷◌, ◌++◌, refl, ap, ◌∙◌, append_assoc, ◌<◌, true, eqb, sym, arith, encode_utf8, ◌/◌, ◌%◌, false, ltb, Bool, cond, IsUtf8}
use Rattle.std.proofs.lemmas.Bool.Decides.{nat_tests}
use Rattle.std.proofs.lemmas.Str.{encode_ascii, digit_value-digit_char}
use Rattle.sw_json.specs.Bytes.{is_plain}
use Rattle.sw_json.specs.Quoted.{Piece, IsPiece, meaning, spelled, short, is_short, short_character, hex, are_hex, code, unit, plain, ArePieces, spelling_of, meanings, IsQuoted}
use Rattle.sw_json.specs.Text.{escape_of, escaped}
use Rattle.sw_json.specs.Laws.Numbers.{is_eq}

-- a text in front of a rest
pub escaped-append : (s k l : List ℕ) → escaped s (k ++ l) ≡ escaped s k ++ l
escaped-append [] k l = refl
escaped-append (b ∷ bs) k l = ap (λ r. escape_of b ++ r) (escaped-append bs k l) ∙ regrouped where
  regrouped : escape_of b ++ (escaped bs k ++ l) ≡ (escape_of b ++ escaped bs k) ++ l
  regrouped = rw append_assoc refl

-- a piece that spells a byte
record IsPieceOf (b : ℕ) (spelling : List ℕ) : Type 0 where
  piece : Piece
  lawful : IsPiece piece
  spells : (k : List ℕ) → spelling ++ k ≡ spelled piece k
  means : meaning piece ≡ b ∷ []

-- a byte by its short escape
short_of : (b v c : ℕ) → eqb b v ≡ true → is_short c ≡ true → short_character c ≡ v → v < 128 → IsPieceOf b (92 ∷ c ∷ [])
short_of b v c h s e l =
    let same = is_eq b v h in
    record { piece = short c; lawful = s; spells = λ k. refl; means = ap encode_utf8 (e ∙ sym same) ∙ encode_ascii b (omega (arith, same, l)) }

hex_digit : (d : ℕ) → d < 16 → is_digit (digit_char d) 16 ≡ true
hex_digit d h = rw (digit_value-digit_char d (omega (arith, h))) (grind (arith, nat_tests))

are_digits : (c d : ℕ) → is_digit c 16 ≡ true → is_digit d 16 ≡ true → are_hex (hex 48 48 c d) ≡ true
unfolding are_hex
are_digits c d h k = rw (h, k) refl

code_is : (b : ℕ) → b < 32 → code (hex 48 48 (digit_char (b / 16)) (digit_char (b % 16))) ≡ b
unfolding code
code_is b h = rw (digit_value-digit_char (b / 16) (omega (arith, h)), digit_value-digit_char (b % 16) (omega (arith, h))) (omega arith)

no_surrogate : (b : ℕ) → b < 32 → (is_high_surrogate b ≡ false) × (is_low_surrogate b ≡ false)
no_surrogate b h = (grind (arith, nat_tests), grind (arith, nat_tests))

-- a byte below a space, by two digits
unit_of : (b : ℕ) → b < 32 → IsPieceOf b (92 ∷ 117 ∷ 48 ∷ 48 ∷ digit_char (b / 16) ∷ digit_char (b % 16) ∷ [])
unit_of b h =
    let high : b / 16 < 16 = omega arith in
    let low : b % 16 < 16 = omega arith in
    let digits = hex 48 48 (digit_char (b / 16)) (digit_char (b % 16)) in
    let are : are_hex digits ≡ true = are_digits (digit_char (b / 16)) (digit_char (b % 16)) (hex_digit (b / 16) high) (hex_digit (b % 16) low) in
    let c : code digits ≡ b = code_is b h in
    record {
      piece = unit digits;
      lawful = (are, ap is_high_surrogate c ∙ (no_surrogate b h).0, ap is_low_surrogate c ∙ (no_surrogate b h).1);
      spells = λ k. refl;
      means = ap encode_utf8 c ∙ encode_ascii b (omega (arith, h));
    }

plain_of : (b : ℕ) → eqb b 34 ≡ false → eqb b 92 ≡ false → ltb b 32 ≡ false → IsPieceOf b (b ∷ [])
unfolding is_plain
plain_of b q s h = record { piece = plain b; lawful = grind (arith, nat_tests); spells = λ k. refl; means = refl }

-- either way of a choice
either : {A : Type 0} (P : A → Type 0) (c : Bool) (x y : A) → (c ≡ true → P x) → (c ≡ false → P y) → P (cond c x y)
either P true x y h k = h refl
either P false x y h k = k refl

piece_of : (b : ℕ) → IsPieceOf b (escape_of b)
unfolding escape_of is_short short_character
piece_of b =
    either (IsPieceOf b) (eqb b 34) _ _ (λ e. short_of b 34 34 e refl refl (omega arith)) (λ quote.
    either (IsPieceOf b) (eqb b 92) _ _ (λ e. short_of b 92 92 e refl refl (omega arith)) (λ slash.
    either (IsPieceOf b) (eqb b 8) _ _ (λ e. short_of b 8 98 e refl refl (omega arith)) (λ n.
    either (IsPieceOf b) (eqb b 12) _ _ (λ e. short_of b 12 102 e refl refl (omega arith)) (λ n.
    either (IsPieceOf b) (eqb b 10) _ _ (λ e. short_of b 10 110 e refl refl (omega arith)) (λ n.
    either (IsPieceOf b) (eqb b 13) _ _ (λ e. short_of b 13 114 e refl refl (omega arith)) (λ n.
    either (IsPieceOf b) (eqb b 9) _ _ (λ e. short_of b 9 116 e refl refl (omega arith)) (λ n.
    either (IsPieceOf b) (ltb b 32) _ _ (λ e. unit_of b (grind (arith, nat_tests, e))) (λ above. plain_of b quote slash above))))))))

abbrev pieces : List ℕ → List Piece
pieces [] = []
pieces (b ∷ bs) = (piece_of b).piece ∷ pieces bs

pieces_lawful : (s : List ℕ) → ArePieces (pieces s)
pieces_lawful [] = tt
pieces_lawful (b ∷ bs) = ((piece_of b).lawful, pieces_lawful bs)

pieces_spell : (s k : List ℕ) → escaped s k ≡ spelling_of (pieces s) k
pieces_spell [] k = refl
pieces_spell (b ∷ bs) k = ap (λ x. escape_of b ++ x) (pieces_spell bs k) ∙ (piece_of b).spells (spelling_of (pieces bs) k)

pieces_mean : (s : List ℕ) → s ≡ meanings (pieces s)
pieces_mean [] = refl
pieces_mean (b ∷ bs) = ap (λ x. b ∷ x) (pieces_mean bs) ∙ ap (λ m. m ++ meanings (pieces bs)) (sym (piece_of b).means)

-- what stands between the quotation marks of a printed text is a spelling of it
pub escaped_quoted : (s : List ℕ) → IsUtf8 s → IsQuoted (escaped s []) s
escaped_quoted s u = record { pieces = pieces s; lawful = pieces_lawful s; spells = pieces_spell s []; means = pieces_mean s; is_text = u }
