-- A short whole number in front of bytes is the token there, and has its digits' value.
use Rattle.std.proofs.Common.{◌≡◌, ℕ, ◌+◌, ◌*◌, ◌-◌, ◌^◌, ◌<◌, ◌≤◌, ℤ, pos, Bool, true, false, cond, eqb, leb, ltb, List, [], ◌∷◌, ◌++◌, append-nil, Some, None, refl, sym, ap, ◌∙◌, inl, inr, arith}
use Rattle.std.proofs.lemmas.Bool.Decides.{nat_tests}
use Rattle.std.proofs.lemmas.Bool.{lt-ltb, le-leb}
use Rattle.std.specs.Prelude.{neg_ℤ, ◌&&◌}
use Rattle.std.specs.List.{list_all}
use Rattle.sw_json.specs.Laws.Numbers.{leading_digit}
use Rattle.std.specs.Str.Parse.{digits_value}
use Rattle.sw_tree.specs.Number.{whole_of}
use Rattle.sw_tree.specs.Laws.Number.{value_from, value_of, value_of-digits}
use Rattle.sw_json.specs.Token.{Token}
use Rattle.sw_json.specs.Bytes.{is_digit, is_leading, front, behind}
use Rattle.sw_json.specs.Grammar.{IsNumber}
use Rattle.sw_json.specs.Inner.Short.{IsShortInt, IsShort}
use Rattle.sw_json.specs.Laws.Fronts.{split, front_passes, and_right}
use Rattle.sw_json.specs.Laws.Numbers.{leading_isnt_minus}
use Rattle.sw_json.specs.Laws.Lexemes.{found}
use Rattle.sw_json.proofs.WholeNumbers.{plain_value}

-- ---- the first digit

leading_counts : (b : ℕ) → is_leading b ≡ true → 0 < b - 48
unfolding is_leading
leading_counts b h = grind (arith, nat_tests)

pub front_leads : (bytes rest : List ℕ) (d : ℕ) → bytes ≡ d ∷ rest → is_leading d ≡ true → front is_digit bytes ≡ d ∷ front is_digit rest
front_leads bytes rest d e h = ap (front is_digit) e ∙ ap (λ t. cond t (d ∷ front is_digit rest) []) (leading_digit d h)

-- ---- the value

value_grows : (ds : List ℕ) (n : ℕ) → n ≤ value_from n ds
value_grows [] n = omega arith
value_grows (d ∷ ds) n = omega (arith, value_grows ds (n * 10 + (d - 48)))

some_value : (d : ℕ) (ds : List ℕ) → is_leading d ≡ true → list_all is_digit (d ∷ ds) ≡ true → 0 < digits_value 10 (d ∷ ds)
some_value d ds h k = omega (arith, value_of-digits (d ∷ ds) k, value_grows ds (0 * 10 + (d - 48)), leading_counts d h)

picked : (m l a : Bool) (p q : ℤ) → m ≡ false → l ≡ true → cond (cond m a l) (Some (cond m p q)) None ≡ Some q
picked true l a p q h k = cc
picked false true a p q h k = refl
picked false false a p q h k = cc

both_picked : (l a : Bool) (p : ℤ) → l ≡ true → a ≡ true → cond (l && a) (Some p) None ≡ Some p
both_picked true true p h k = refl
both_picked true false p h k = cc
both_picked false a p h k = cc

whole_plain : (d : ℕ) (ds : List ℕ) → is_leading d ≡ true → digits_value 10 (d ∷ ds) < 2 ^ 128 → whole_of (d ∷ ds) ≡ Some (pos (digits_value 10 (d ∷ ds)))
whole_plain d ds h k =
    picked (eqb d 45) (ltb (digits_value 10 (d ∷ ds)) (2 ^ 128)) (ltb 0 (digits_value 10 ds) && leb (digits_value 10 ds) (2 ^ 127)) (neg_ℤ (pos (digits_value 10 ds))) (pos (digits_value 10 (d ∷ ds)))
    (leading_isnt_minus d h) (lt-ltb (digits_value 10 (d ∷ ds)) (2 ^ 128) k)

whole_negative : (d : ℕ) (ds : List ℕ) → is_leading d ≡ true → list_all is_digit (d ∷ ds) ≡ true → digits_value 10 (d ∷ ds) ≤ 2 ^ 127 → whole_of (45 ∷ d ∷ ds) ≡ Some (neg_ℤ (pos (digits_value 10 (d ∷ ds))))
whole_negative d ds h a k =
    both_picked (ltb 0 (digits_value 10 (d ∷ ds))) (leb (digits_value 10 (d ∷ ds)) (2 ^ 127)) (neg_ℤ (pos (digits_value 10 (d ∷ ds))))
    (lt-ltb 0 (digits_value 10 (d ∷ ds)) (some_value d ds h a)) (le-leb (digits_value 10 (d ∷ ds)) (2 ^ 127) k)

-- ---- the number

abbrev plain_number : (d : ℕ) (ds : List ℕ) → is_leading d ≡ true → list_all is_digit ds ≡ true → IsNumber (d ∷ ds)
plain_number d ds h k = record {
  sign = [];
  int = d ∷ ds;
  fraction = [];
  exponent = [];
  parts = sym (append-nil (d ∷ ds));
  is_sign = inl refl;
  is_int = inr (h, k);
  is_fraction = tt;
  is_exponent = tt;
}

abbrev negative_number : (d : ℕ) (ds : List ℕ) → is_leading d ≡ true → list_all is_digit ds ≡ true → IsNumber (45 ∷ d ∷ ds)
negative_number d ds h k = record {
  sign = 45 ∷ [];
  int = d ∷ ds;
  fraction = [];
  exponent = [];
  parts = ap (λ (x : List ℕ). 45 ∷ x) (sym (append-nil (d ∷ ds)));
  is_sign = inr refl;
  is_int = inr (h, k);
  is_fraction = tt;
  is_exponent = tt;
}

module _ (bytes : List ℕ) (n : ℕ) (rest : List ℕ) (short : IsShortInt bytes n rest) where
  each_digit : list_all is_digit (short.first ∷ short.more) ≡ true
  each_digit = ap (list_all is_digit) (sym short.digits) ∙ front_passes is_digit bytes

  all_digits : list_all is_digit short.more ≡ true
  all_digits = and_right (is_digit short.first) (list_all is_digit short.more) each_digit

  value_is : n ≡ digits_value 10 (short.first ∷ short.more)
  value_is = short.value ∙ ap value_of short.digits ∙ value_of-digits (short.first ∷ short.more) each_digit

  parts : bytes ≡ (short.first ∷ short.more) ++ rest
  parts = split is_digit bytes ∙ ap (λ (x : List ℕ). x ++ behind is_digit bytes) short.digits ∙ ap (λ (x : List ℕ). (short.first ∷ short.more) ++ x) (sym short.rest_is)

  pub short_plain : IsShort bytes (pos n) rest
  short_plain = record {
    spelling = short.first ∷ short.more;
    found = λ at. found at bytes (Token.number at (short.first ∷ short.more)) rest (refl, plain_number short.first short.more short.leading all_digits, short.stops, parts);
    value = plain_value (short.first ∷ short.more) (plain_number short.first short.more short.leading all_digits) refl
        ∙ whole_plain short.first short.more short.leading (omega (arith, value_is, short.small)) ∙ ap (λ (x : ℕ). Some (pos x)) (sym value_is);
  }

  pub short_negative : (all : List ℕ) (b : ℕ) → all ≡ b ∷ bytes → b ≡ 45 → IsShort all (neg_ℤ (pos n)) rest
  short_negative all b e h =
      let whole : all ≡ 45 ∷ (short.first ∷ short.more) ++ rest = e ∙ ap (λ (x : ℕ). x ∷ bytes) h ∙ ap (λ (x : List ℕ). 45 ∷ x) parts in
      record {
        spelling = 45 ∷ short.first ∷ short.more;
        found = λ at. found at all (Token.number at (45 ∷ short.first ∷ short.more)) rest (refl, negative_number short.first short.more short.leading all_digits, short.stops, whole);
        value = plain_value (45 ∷ short.first ∷ short.more) (negative_number short.first short.more short.leading all_digits) refl
            ∙ whole_negative short.first short.more short.leading each_digit (omega (arith, value_is, short.small)) ∙ ap (λ (x : ℕ). Some (neg_ℤ (pos x))) (sym value_is);
      }
