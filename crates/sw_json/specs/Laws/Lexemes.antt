-- What is found at the front of the bytes is the token there, and the only one.
use Rattle.std.specs.Prelude.{codes}
use Rattle.std.specs.List.{list_all}
use Rattle.std.proofs.Common.{◌≡◌, ℕ, false, eqb, true, arith, List, [], ◌∷◌, ◌++◌, Some, None, inl, inr, subst, refl, ap, ◌<◌, length, length-append}
use Rattle.std.proofs.lemmas.Bool.Decides.{nat_tests}
use Rattle.sw_tree.specs.Laws.Options.{some_is, map_some}
use Rattle.sw_json.specs.Token.{Token}
use Rattle.sw_json.specs.Bytes.{is_digit, is_number_byte, behind_word, Stops, front, behind}
use Rattle.sw_json.specs.Quoted.{IsQuoted, quoted}
use Rattle.sw_json.specs.Grammar.{Front, IsNumber}
use Rattle.sw_json.specs.Lexing.{word_token, lexeme, text_token, is_number, number_token, literal_or_number}
use Rattle.sw_json.specs.Laws.Fronts.{front_is, behind_is, and_left, split, behind_stops}
use Rattle.sw_json.specs.Laws.Numbers.{chosen, is_eq, number_passes, number_bytes, number_length, is_number-IsNumber}
use Rattle.sw_json.specs.Laws.Quoting.{quoted_found, quoted_taken}

-- the byte begins a literal or a number, if any token
pub record IsOther (b : ℕ) : Type 0 where
  pub bracket : eqb b 91 ≡ false
  pub closing_bracket : eqb b 93 ≡ false
  pub brace : eqb b 123 ≡ false
  pub closing_brace : eqb b 125 ≡ false
  pub comma : eqb b 44 ≡ false
  pub colon : eqb b 58 ≡ false
  pub quote : eqb b 34 ≡ false

-- the byte begins a number, if any token
record IsNumeral (b : ℕ) : Type 0 where
  other : IsOther b
  n : eqb b 110 ≡ false
  t : eqb b 116 ≡ false
  f : eqb b 102 ≡ false

number_byte : (b : ℕ) → is_number_byte b ≡ true → IsNumeral b
unfolding is_number_byte is_digit
number_byte b h = record {
  other = record {
    bracket = grind (arith, nat_tests);
    closing_bracket = grind (arith, nat_tests);
    brace = grind (arith, nat_tests);
    closing_brace = grind (arith, nat_tests);
    comma = grind (arith, nat_tests);
    colon = grind (arith, nat_tests);
    quote = grind (arith, nat_tests);
  };
  n = grind (arith, nat_tests);
  t = grind (arith, nat_tests);
  f = grind (arith, nat_tests);
}

pub word_is : (w bytes rest : List ℕ) → behind_word w bytes ≡ Some rest → bytes ≡ w ++ rest
word_is [] bytes rest h = some_is h
word_is (c ∷ w) [] rest h = cc
word_is (c ∷ w) (b ∷ bs) rest h = elim (chosen (eqb b c) (behind_word w bs) None (Some rest) h) [
  | inl m ↦ let e = word_is w bs rest m.1 in let k = is_eq b c m.0 in cc
  | inr m ↦ cc m.1
]

word_taken : (off : ℕ) (w bytes : List ℕ) (t : Token) (y : Token × List ℕ) → word_token w t bytes ≡ Some y → ((rest : List ℕ) → bytes ≡ w ++ rest → Front off bytes t rest) → Front off bytes y.0 y.1
word_taken off w bytes t y h f =
    let m = map_some (λ (rest : List ℕ). (t, rest)) (behind_word w bytes) y h in
    subst (λ (z : Token × List ℕ). Front off bytes z.0 z.1) m.2 (f m.0 (word_is w bytes m.0 m.1))

-- ---- from the grammar to the lexer
number_lexeme : (at : ℕ) (s rest : List ℕ) → IsNumber s → Stops is_number_byte rest → lexeme at (s ++ rest) ≡ Some (Token.number at s, rest)
unfolding lexeme
number_lexeme at [] rest h k = absurd (omega (arith, number_length [] h))
number_lexeme at (b ∷ bs) rest h k =
    let a = number_bytes (b ∷ bs) h in
    let n = number_byte b (and_left (is_number_byte b) (list_all is_number_byte bs) a) in
    rw (n.other.bracket, n.other.closing_bracket, n.other.brace, n.other.closing_brace, n.other.comma, n.other.colon, n.other.quote, n.n, n.t, n.f)
    (rw (front_is is_number_byte (b ∷ bs) rest a k, behind_is is_number_byte (b ∷ bs) rest a k, number_passes (b ∷ bs) h) refl)

text_lexeme : (at : ℕ) (s t rest : List ℕ) → IsQuoted s t → lexeme at (34 ∷ s ++ 34 ∷ rest) ≡ Some (Token.text (record { at = at; spelling = s; text = t }), rest)
unfolding lexeme
text_lexeme at s t rest h = ap (text_token at) (quoted_found (s ++ 34 ∷ rest) s t rest h refl)

pub found : (off : ℕ) (bytes : List ℕ) (t : Token) (rest : List ℕ) → Front off bytes t rest → lexeme off bytes ≡ Some (t, rest)
unfolding lexeme
found off bytes (Token.null at) rest h = rw (h.0, h.1) refl
found off bytes (Token.truth at true) rest h = rw (h.0, h.1) refl
found off bytes (Token.truth at false) rest h = rw (h.0, h.1) refl
found off bytes (Token.number at s) rest h = rw (h.0, h.3) (number_lexeme off s rest h.1 h.2)
found off bytes (Token.text q) rest h = rw (h.2) (rw (← h.0) (text_lexeme q.at q.spelling q.text rest h.1))
found off bytes (Token.open_list at) rest h = rw (h.0, h.1) refl
found off bytes Token.close_list rest h = rw h refl
found off bytes (Token.open_map at) rest h = rw (h.0, h.1) refl
found off bytes Token.close_map rest h = rw h refl
found off bytes Token.comma rest h = rw h refl
found off bytes Token.colon rest h = rw h refl

-- ---- from the lexer to the grammar
-- one token with no text of its own
single : (off b c : ℕ) (bs : List ℕ) (u : Token) (y : Token × List ℕ) → eqb b c ≡ true → Some (u, bs) ≡ Some y → Front off (c ∷ bs) u bs → Front off (b ∷ bs) y.0 y.1
single off b c bs u y q h f = rw (is_eq b c q) (subst (λ (z : Token × List ℕ). Front off (c ∷ bs) z.0 z.1) (some_is h) f)

text_taken : (off b : ℕ) (bs : List ℕ) (y : Token × List ℕ) → eqb b 34 ≡ true → text_token off (quoted bs) ≡ Some y → Front off (b ∷ bs) y.0 y.1
text_taken off b bs y q h =
    let m = map_some (λ (x : List ℕ × (List ℕ × List ℕ)). (Token.text (record { at = off; spelling = x.0; text = x.1.0 }), x.1.1)) (quoted bs) y h in
    let k = quoted_taken bs m.0.0 m.0.1.0 m.0.1.1 m.1 in
    subst (λ (z : Token × List ℕ). Front off (b ∷ bs) z.0 z.1) m.2 (refl, k.0, cc (is_eq b 34 q, k.1))

number_taken : (off : ℕ) (bytes : List ℕ) (y : Token × List ℕ) → number_token off (front is_number_byte bytes) (behind is_number_byte bytes) ≡ Some y → Front off bytes y.0 y.1
number_taken off bytes y h = elim (chosen (is_number (front is_number_byte bytes)) _ None (Some y) h) [
  | inl n ↦ subst (λ (z : Token × List ℕ). Front off bytes z.0 z.1) (some_is n.1) (refl, is_number-IsNumber (front is_number_byte bytes) n.0, behind_stops is_number_byte bytes, split is_number_byte bytes)
  | inr n ↦ cc n.1
]

literal_taken : (off b : ℕ) (bs : List ℕ) (y : Token × List ℕ) → literal_or_number off b (b ∷ bs) ≡ Some y → Front off (b ∷ bs) y.0 y.1
literal_taken off b bs y h = elim (chosen (eqb b 110) _ _ _ h) [
  | inl m ↦ word_taken off (codes "null") (b ∷ bs) (Token.null off) y m.1 (λ rest e. (refl, e))
  | inr m ↦ elim (chosen (eqb b 116) _ _ _ m.1) [
    | inl n ↦ word_taken off (codes "true") (b ∷ bs) (Token.truth off true) y n.1 (λ rest e. (refl, e))
    | inr n ↦ elim (chosen (eqb b 102) _ _ _ n.1) [
      | inl o ↦ word_taken off (codes "false") (b ∷ bs) (Token.truth off false) y o.1 (λ rest e. (refl, e))
      | inr o ↦ number_taken off (b ∷ bs) y o.1
    ]
  ]
]

pub taken : (off : ℕ) (bytes : List ℕ) (y : Token × List ℕ) → lexeme off bytes ≡ Some y → Front off bytes y.0 y.1
unfolding lexeme
taken off [] y h = cc
taken off (b ∷ bs) y h = elim (chosen (eqb b 91) _ _ _ h) [
  | inl m ↦ single off b 91 bs (Token.open_list off) y m.0 m.1 (refl, refl)
  | inr m ↦ elim (chosen (eqb b 93) _ _ _ m.1) [
    | inl n ↦ single off b 93 bs Token.close_list y n.0 n.1 refl
    | inr n ↦ elim (chosen (eqb b 123) _ _ _ n.1) [
      | inl o ↦ single off b 123 bs (Token.open_map off) y o.0 o.1 (refl, refl)
      | inr o ↦ elim (chosen (eqb b 125) _ _ _ o.1) [
        | inl p ↦ single off b 125 bs Token.close_map y p.0 p.1 refl
        | inr p ↦ elim (chosen (eqb b 44) _ _ _ p.1) [
          | inl q ↦ single off b 44 bs Token.comma y q.0 q.1 refl
          | inr q ↦ elim (chosen (eqb b 58) _ _ _ q.1) [
            | inl r ↦ single off b 58 bs Token.colon y r.0 r.1 refl
            | inr r ↦ elim (chosen (eqb b 34) _ _ _ r.1) [
              | inl s ↦ text_taken off b bs y s.0 s.1
              | inr s ↦ literal_taken off b bs y s.1
            ]
          ]
        ]
      ]
    ]
  ]
]

-- ---- a token takes some bytes
pub front_shorter : (off : ℕ) (bytes : List ℕ) (t : Token) (rest : List ℕ) → Front off bytes t rest → length rest < length bytes
front_shorter off bytes (Token.null at) rest h = omega (arith, ap length h.1)
front_shorter off bytes (Token.truth at true) rest h = omega (arith, ap length h.1)
front_shorter off bytes (Token.truth at false) rest h = omega (arith, ap length h.1)
front_shorter off bytes (Token.number at s) rest h = omega (arith, number_length s h.1, ap length h.3, length-append s rest)
front_shorter off bytes (Token.text q) rest h = omega (arith, ap length h.2, length-append q.spelling (34 ∷ rest))
front_shorter off bytes (Token.open_list at) rest h = omega (arith, ap length h.1)
front_shorter off bytes Token.close_list rest h = omega (arith, ap length h)
front_shorter off bytes (Token.open_map at) rest h = omega (arith, ap length h.1)
front_shorter off bytes Token.close_map rest h = omega (arith, ap length h)
front_shorter off bytes Token.comma rest h = omega (arith, ap length h)
front_shorter off bytes Token.colon rest h = omega (arith, ap length h)
