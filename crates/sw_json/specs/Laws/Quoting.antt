-- What is found behind an opening quotation mark is the text there, and the only one.
use Rattle.std.specs.Prelude.{option_map, option_and_then, ◌&&◌, ◌⊎◌}
use Rattle.std.specs.Char.{encode_utf8}
use Rattle.std.specs.Char.Utf16.{is_low_surrogate, surrogate_pair_char, is_high_surrogate}
use Rattle.std.specs.Str.{IsUtf8, is_utf8}
use Rattle.std.proofs.Common.{◌≡◌, ℕ, true, false, eqb, arith, List, Some, refl, ◌∷◌, ap, None, zero, suc, ◌≤◌, [], length, ◌+◌, ◌<◌, ◌++◌, ◌∙◌, ◌-◌, take, take_at, length-append, sym, inl, inr, cond, subst, Option}
use Rattle.std.proofs.lemmas.Bool.Decides.{nat_tests}
use Rattle.std.proofs.lemmas.Str.{is_utf8-from_IsUtf8, IsUtf8-from_is_utf8}
use Rattle.sw_tree.specs.Laws.Options.{some_is, none_some, bind_some, map_some}
use Rattle.sw_json.specs.Bytes.{is_plain}
use Rattle.sw_json.specs.Quoted.{is_short, Hex, hex, are_hex, code, spelled_hex, hex_at, low_at, unit, IsPiece, unit_at, pair, Piece, plain, short, meaning, spelled, escape_at, piece_at, at_quote, spelling_of, ArePieces, meanings, before, content, IsQuoted, with_spelling, quoted, if_low, if_unit, short_character, quote_or}
use Rattle.sw_json.specs.Laws.Numbers.{chosen, is_eq}
use Rattle.sw_json.specs.Laws.Fronts.{and_left, and_right}

-- ---- from the grammar to what is computed
pub plain_byte : (b : ℕ) → is_plain b ≡ true → (eqb b 92 ≡ false) × (eqb b 34 ≡ false)
unfolding is_plain
plain_byte b h = (grind (arith, nat_tests), grind (arith, nat_tests))

short_byte : (b : ℕ) → is_short b ≡ true → eqb b 117 ≡ false
unfolding is_short
short_byte b h = grind (arith, nat_tests)

hex_found : (h : Hex) (k : List ℕ) → are_hex h ≡ true → hex_at (spelled_hex h k) ≡ Some (code h, k)
hex_found (hex a b c d) k h = rw h refl

low_found : (high : ℕ) (l : Hex) (k : List ℕ) → are_hex l ≡ true → is_low_surrogate (code l) ≡ true → low_at high (92 ∷ 117 ∷ spelled_hex l k) ≡ Some (surrogate_pair_char high (code l), k)
low_found high l k h s = rw (hex_found l k h) (rw s refl)

unit_found : (h : Hex) (k : List ℕ) → IsPiece (unit h) → unit_at (spelled_hex h k) ≡ Some (code h, k)
unit_found h k p = rw (hex_found h k p.0) (rw (p.1, p.2) refl)

pair_found : (h l : Hex) (k : List ℕ) → IsPiece (pair h l) → unit_at (spelled_hex h (92 ∷ 117 ∷ spelled_hex l k)) ≡ Some (surrogate_pair_char (code h) (code l), k)
pair_found h l k p = rw (hex_found h (92 ∷ 117 ∷ spelled_hex l k) p.0) (rw p.1 (low_found (code h) l k p.2 p.3))

piece_found : (p : Piece) (k : List ℕ) → IsPiece p → piece_at (spelled p k) ≡ Some (meaning p, k)
unfolding piece_at escape_at
piece_found (plain b) k h = rw ((plain_byte b h).0, h) refl
piece_found (short b) k h = rw (short_byte b h, h) refl
piece_found (unit h) k p = ap (option_map (λ (x : ℕ × List ℕ). (encode_utf8 x.0, x.1))) (unit_found h k p)
piece_found (pair h l) k p = ap (option_map (λ (x : ℕ × List ℕ). (encode_utf8 x.0, x.1))) (pair_found h l k p)

no_quote : (p : Piece) (k : List ℕ) → IsPiece p → at_quote (spelled p k) ≡ None
no_quote (plain b) k h = rw (plain_byte b h).1 refl
no_quote (short b) k h = refl
no_quote (unit h) k p = refl
no_quote (pair h l) k p = refl

content_found : (n : ℕ) (ps : List Piece) (rest : List ℕ) → ArePieces ps → length ps ≤ n → content n (spelling_of ps (34 ∷ rest)) ≡ Some (meanings ps, rest)
unfolding content
content_found zero [] rest h l = refl
content_found (suc n) [] rest h l = refl
content_found zero (p ∷ ps) rest h l = absurd (omega arith)
content_found (suc n) (p ∷ ps) rest h l =
    rw (no_quote p (spelling_of ps (34 ∷ rest)) h.0, piece_found p (spelling_of ps (34 ∷ rest)) h.0) (ap (before (meaning p)) (content_found n ps rest h.1 (omega arith)))

hex_length : (h : Hex) (k : List ℕ) → length (spelled_hex h k) ≡ length k + 4
hex_length (hex a b c d) k = omega arith

pub spelled_longer : (p : Piece) (k : List ℕ) → length k < length (spelled p k)
spelled_longer (plain b) k = omega arith
spelled_longer (short b) k = omega arith
spelled_longer (unit h) k = omega (arith, hex_length h k)
spelled_longer (pair h l) k = omega (arith, hex_length h (92 ∷ 117 ∷ spelled_hex l k), hex_length l k)

fewer : (ps : List Piece) (k : List ℕ) → length ps + length k ≤ length (spelling_of ps k)
fewer [] k = omega arith
fewer (p ∷ ps) k = omega (arith, fewer ps k, spelled_longer p (spelling_of ps k))

hex_append : (h : Hex) (k m : List ℕ) → spelled_hex h (k ++ m) ≡ spelled_hex h k ++ m
hex_append (hex a b c d) k m = refl

spelled_append : (p : Piece) (k m : List ℕ) → spelled p (k ++ m) ≡ spelled p k ++ m
spelled_append (plain b) k m = refl
spelled_append (short b) k m = refl
spelled_append (unit h) k m = ap (λ x. 92 ∷ 117 ∷ x) (hex_append h k m)
spelled_append (pair h l) k m = ap (λ x. 92 ∷ 117 ∷ spelled_hex h (92 ∷ 117 ∷ x)) (hex_append l k m) ∙ ap (λ x. 92 ∷ 117 ∷ x) (hex_append h (92 ∷ 117 ∷ spelled_hex l k) m)

spelling_append : (ps : List Piece) (k : List ℕ) → spelling_of ps k ≡ spelling_of ps [] ++ k
spelling_append [] k = refl
spelling_append (p ∷ ps) k = ap (spelled p) (spelling_append ps k) ∙ spelled_append p (spelling_of ps []) k

-- the spelling is what stands before the closing quotation mark
pub spelling_taken : (s rest : List ℕ) → take (length (s ++ 34 ∷ rest) - length rest - 1) (s ++ 34 ∷ rest) ≡ s
spelling_taken s rest = take_at s (34 ∷ rest) (length (s ++ 34 ∷ rest) - length rest - 1) (omega (arith, length-append s (34 ∷ rest)))

content_of : (s t rest : List ℕ) → IsQuoted s t → content (length (s ++ 34 ∷ rest)) (s ++ 34 ∷ rest) ≡ Some (t, rest)
content_of s t rest q =
    let e : s ++ 34 ∷ rest ≡ spelling_of q.pieces (34 ∷ rest) = ap (λ x. x ++ 34 ∷ rest) q.spells ∙ sym (spelling_append q.pieces (34 ∷ rest)) in
    let l : length q.pieces ≤ length (s ++ 34 ∷ rest) = omega (arith, fewer q.pieces (34 ∷ rest), ap length e) in
    ap (content (length (s ++ 34 ∷ rest))) e ∙ content_found (length (s ++ 34 ∷ rest)) q.pieces rest q.lawful l ∙ ap (λ x. Some (x, rest)) (sym q.means)

with_spelling_is : (s t rest : List ℕ) → IsUtf8 t → with_spelling (s ++ 34 ∷ rest) (t, rest) ≡ Some (s, (t, rest))
with_spelling_is s t rest u = rw (is_utf8-from_IsUtf8 t u, spelling_taken s rest) refl

-- what the grammar calls a text is found, with its spelling and what is behind it
pub quoted_found : (bytes s t rest : List ℕ) → IsQuoted s t → bytes ≡ s ++ 34 ∷ rest → quoted bytes ≡ Some (s, (t, rest))
unfolding quoted
quoted_found bytes s t rest q e =
    ap (λ b. option_and_then (with_spelling b) (content (length b) b)) e ∙ ap (option_and_then (with_spelling (s ++ 34 ∷ rest))) (content_of s t rest q) ∙ with_spelling_is s t rest q.is_text

-- ---- from what is computed to the grammar
-- four digits with that code, and what is behind them
record HexTaken (bytes : List ℕ) (c : ℕ) (k : List ℕ) : Type 0 where
  digits : Hex
  are : are_hex digits ≡ true
  means : code digits ≡ c
  spells : bytes ≡ spelled_hex digits k

hex_taken : (bs : List ℕ) (y : ℕ × List ℕ) → hex_at bs ≡ Some y → HexTaken bs y.0 y.1
hex_taken (a ∷ b ∷ c ∷ d ∷ k) y z = elim (chosen (are_hex (hex a b c d)) (Some (code (hex a b c d), k)) None (Some y) z) [
  | inl m ↦ let e = some_is m.1 in record { digits = hex a b c d; are = m.0; means = ap (λ w. w.0) e; spells = ap (λ w. a ∷ b ∷ c ∷ d ∷ w.1) e }
  | inr m ↦ absurd (none_some m.1)
]
hex_taken bs y z = absurd (none_some z)

-- a low surrogate behind \u
record LowTaken (bytes : List ℕ) (high c : ℕ) (k : List ℕ) : Type 0 where
  digits : Hex
  are : are_hex digits ≡ true
  is_low : is_low_surrogate (code digits) ≡ true
  means : surrogate_pair_char high (code digits) ≡ c
  spells : bytes ≡ 92 ∷ 117 ∷ spelled_hex digits k

low_is : (high : ℕ) (bs : List ℕ) (x y : ℕ × List ℕ) → HexTaken bs x.0 x.1 → if_low high x ≡ Some y → LowTaken (92 ∷ 117 ∷ bs) high y.0 y.1
low_is high bs x y h z = elim (chosen (is_low_surrogate x.0) (Some (surrogate_pair_char high x.0, x.1)) None (Some y) z) [
  | inl m ↦ let e = some_is m.1 in record {
    digits = h.digits;
    are = h.are;
    is_low = ap is_low_surrogate h.means ∙ m.0;
    means = ap (surrogate_pair_char high) h.means ∙ ap (λ w. w.0) e;
    spells = ap (λ w. 92 ∷ 117 ∷ w) (h.spells ∙ ap (λ w. spelled_hex h.digits w.1) e);
  }
  | inr m ↦ absurd (none_some m.1)
]

low_taken : (high : ℕ) (bs : List ℕ) (y : ℕ × List ℕ) → low_at high bs ≡ Some y → LowTaken bs high y.0 y.1
low_taken high (s ∷ u ∷ k) y z = elim (chosen ((eqb s 92) && (eqb u 117)) (option_and_then (if_low high) (hex_at k)) None (Some y) z) [
  | inl m ↦
      let b = bind_some (if_low high) (hex_at k) y m.1 in
      rw (is_eq s 92 (and_left (eqb s 92) (eqb u 117) m.0), is_eq u 117 (and_right (eqb s 92) (eqb u 117) m.0)) (low_is high k b.0 y (hex_taken k b.0 b.1) b.2)
  | inr m ↦ absurd (none_some m.1)
]
low_taken high bs y z = absurd (none_some z)

-- a piece that stands for these bytes, and what is behind it
pub record Taken (bytes out k : List ℕ) : Type 0 where
  pub piece : Piece
  pub lawful : IsPiece piece
  pub means : meaning piece ≡ out
  pub spells : bytes ≡ spelled piece k

if_unit_taken : (bs : List ℕ) (x y : ℕ × List ℕ) → HexTaken bs x.0 x.1 → if_unit x ≡ Some y → Taken (92 ∷ 117 ∷ bs) (encode_utf8 y.0) y.1
if_unit_taken bs x y h z = elim (chosen (is_high_surrogate x.0) (low_at x.0 x.1) (cond (is_low_surrogate x.0) None (Some x)) (Some y) z) [
  | inl m ↦ let l = low_taken x.0 x.1 y m.1 in record {
    piece = pair h.digits l.digits;
    lawful = (h.are, ap is_high_surrogate h.means ∙ m.0, l.are, l.is_low);
    means = ap encode_utf8 (ap (λ c. surrogate_pair_char c (code l.digits)) h.means ∙ l.means);
    spells = ap (λ w. 92 ∷ 117 ∷ w) (h.spells ∙ ap (spelled_hex h.digits) l.spells);
  }
  | inr m ↦ elim (chosen (is_low_surrogate x.0) None (Some x) (Some y) m.1) [
    | inl n ↦ absurd (none_some n.1)
    | inr n ↦ let e = some_is n.1 in record {
      piece = unit h.digits;
      lawful = (h.are, ap is_high_surrogate h.means ∙ m.0, ap is_low_surrogate h.means ∙ n.0);
      means = ap encode_utf8 (h.means ∙ ap (λ w. w.0) e);
      spells = ap (λ w. 92 ∷ 117 ∷ w) (h.spells ∙ ap (λ w. spelled_hex h.digits w.1) e);
    }
  ]
]

escape_taken : (bs : List ℕ) (y : ℕ × List ℕ) → escape_at bs ≡ Some y → Taken (92 ∷ bs) (encode_utf8 y.0) y.1
unfolding escape_at
escape_taken [] y z = absurd (none_some z)
escape_taken (x ∷ bs) y z = elim (chosen (eqb x 117) (unit_at bs) (cond (is_short x) (Some (short_character x, bs)) None) (Some y) z) [
  | inl m ↦ let b = bind_some if_unit (hex_at bs) y m.1 in rw (is_eq x 117 m.0) (if_unit_taken bs b.0 y (hex_taken bs b.0 b.1) b.2)
  | inr m ↦ elim (chosen (is_short x) (Some (short_character x, bs)) None (Some y) m.1) [
    | inl n ↦ let e = some_is n.1 in record { piece = short x; lawful = n.0; means = ap (λ w. encode_utf8 w.0) e; spells = ap (λ w. 92 ∷ x ∷ w.1) e }
    | inr n ↦ absurd (none_some n.1)
  ]
]

pub piece_taken : (bs : List ℕ) (y : List ℕ × List ℕ) → piece_at bs ≡ Some y → Taken bs y.0 y.1
unfolding piece_at
piece_taken [] y z = absurd (none_some z)
piece_taken (b ∷ bs) y z = elim (chosen (eqb b 92) (option_map (λ x. (encode_utf8 x.0, x.1)) (escape_at bs)) (cond (is_plain b) (Some (b ∷ [], bs)) None) (Some y) z) [
  | inl m ↦
      let x = map_some (λ (x : ℕ × List ℕ). (encode_utf8 x.0, x.1)) (escape_at bs) y m.1 in
      rw (is_eq b 92 m.0) (subst (λ (w : List ℕ × List ℕ). Taken (92 ∷ bs) w.0 w.1) x.2 (escape_taken bs x.0 x.1))
  | inr m ↦ elim (chosen (is_plain b) (Some (b ∷ [], bs)) None (Some y) m.1) [
    | inl n ↦ let e = some_is n.1 in record { piece = plain b; lawful = n.0; means = ap (λ w. w.0) e; spells = ap (λ w. b ∷ w.1) e }
    | inr n ↦ absurd (none_some n.1)
  ]
]

quote_taken : (bs rest : List ℕ) → at_quote bs ≡ Some rest → bs ≡ 34 ∷ rest
quote_taken [] rest z = absurd (none_some z)
quote_taken (q ∷ bs) rest z = elim (chosen (eqb q 34) (Some bs) None (Some rest) z) [
  | inl m ↦ rw (is_eq q 34 m.0, some_is m.1) refl
  | inr m ↦ absurd (none_some m.1)
]

-- pieces that stand for these bytes, up to a closing quotation mark, and what is behind it
record ContentTaken (bytes t rest : List ℕ) : Type 0 where
  pieces : List Piece
  lawful : ArePieces pieces
  means : t ≡ meanings pieces
  spells : bytes ≡ spelling_of pieces (34 ∷ rest)

closed : (bs : List ℕ) (y : List ℕ × List ℕ) (o : Option (List ℕ)) (r : Option (List ℕ × List ℕ)) → at_quote bs ≡ o → quote_or o r ≡ Some y → ContentTaken bs y.0 y.1 ⊎ (r ≡ Some y)
closed bs y None r e z = inr z
closed bs y (Some rest) r e z =
    inl (subst (λ (w : List ℕ × List ℕ). ContentTaken bs w.0 w.1) (some_is z) (record { pieces = []; lawful = tt; means = refl; spells = quote_taken bs rest e }))

one_more : (bs : List ℕ) (x w y : List ℕ × List ℕ) → Taken bs x.0 x.1 → ContentTaken x.1 w.0 w.1 → (x.0 ++ w.0, w.1) ≡ y → ContentTaken bs y.0 y.1
one_more bs x w y p t e = subst (λ (v : List ℕ × List ℕ). ContentTaken bs v.0 v.1) e (record {
  pieces = p.piece ∷ t.pieces;
  lawful = (p.lawful, t.lawful);
  means = ap (λ s. x.0 ++ s) t.means ∙ ap (λ s. s ++ meanings t.pieces) (sym p.means);
  spells = p.spells ∙ ap (spelled p.piece) t.spells;
})

content_taken : (n : ℕ) (bs : List ℕ) (y : List ℕ × List ℕ) → content n bs ≡ Some y → ContentTaken bs y.0 y.1
unfolding content
content_taken zero bs y h = elim (closed bs y (at_quote bs) None refl h) [ inl t ↦ t | inr z ↦ absurd (none_some z) ]
content_taken (suc n) bs y h = elim (closed bs y (at_quote bs) (option_and_then (λ x. before x.0 (content n x.1)) (piece_at bs)) refl h) [
  | inl t ↦ t
  | inr z ↦
      let b = bind_some (λ (x : List ℕ × List ℕ). before x.0 (content n x.1)) (piece_at bs) y z in
      let m = map_some (λ (w : List ℕ × List ℕ). (b.0.0 ++ w.0, w.1)) (content n b.0.1) y b.2 in
      one_more bs b.0 m.0 y (piece_taken bs b.0 b.1) (content_taken n b.0.1 m.0 m.1) m.2
]

quoted_is : (bytes : List ℕ) (x : List ℕ × List ℕ) (y : List ℕ × (List ℕ × List ℕ)) → ContentTaken bytes x.0 x.1 → with_spelling bytes x ≡ Some y → IsQuoted y.0 y.1.0 × (bytes ≡ y.0 ++ 34 ∷ y.1.1)
quoted_is bytes x y c z = elim (chosen (is_utf8 x.0) (Some (take (length bytes - length x.1 - 1) bytes, x)) None (Some y) z) [
  | inl m ↦
      let s = spelling_of c.pieces [] in
      let e : bytes ≡ s ++ 34 ∷ x.1 = c.spells ∙ spelling_append c.pieces (34 ∷ x.1) in
      let f : take (length bytes - length x.1 - 1) bytes ≡ s = ap (λ b. take (length b - length x.1 - 1) b) e ∙ spelling_taken s x.1 in
      subst (λ (w : List ℕ × (List ℕ × List ℕ)). IsQuoted w.0 w.1.0 × (bytes ≡ w.0 ++ 34 ∷ w.1.1)) (some_is m.1)
      (record { pieces = c.pieces; lawful = c.lawful; spells = f; means = c.means; is_text = IsUtf8-from_is_utf8 x.0 m.0 }, e ∙ ap (λ a. a ++ 34 ∷ x.1) (sym f))
  | inr m ↦ absurd (none_some m.1)
]

-- what is found is what the grammar calls a text, and stands there
pub quoted_taken : (bytes s t rest : List ℕ) → quoted bytes ≡ Some (s, (t, rest)) → IsQuoted s t × (bytes ≡ s ++ 34 ∷ rest)
unfolding quoted
quoted_taken bytes s t rest z =
    let b = bind_some (with_spelling bytes) (content (length bytes) bytes) (s, (t, rest)) z in
    quoted_is bytes b.0 (s, (t, rest)) (content_taken (length bytes) bytes b.0 b.1) b.2
