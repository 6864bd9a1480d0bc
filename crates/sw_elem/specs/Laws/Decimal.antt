-- The law of decimal texts, at a type of any width.
use Rattle.std.specs.Prelude.{◌≡◌, true, ℕ, nat_lt, List, length, ◌==◌, Bool, false, slice_index, Some, pos, ℤ, ◌<◌, ◌+◌, ◌^◌, suc, negsuc, Option, None}
use Rattle.std.specs.Bool.{Decides}
use Rattle.std.specs.Fmt.{decimal, signed_decimal}
use Rattle.std.specs.Option.{option_and_then}
use Rattle.std.specs.Str.{all_ascii_digits, IsUtf8}
use Rattle.std.specs.Str.Parse.{digits_value, AllDigits, IsNumeral, without_leading_plus, starts_with_minus, without_leading_sign, signed_digits_value}
use Rattle.std.proofs.Common.{arith, refl, sym, ap, subst, ◌∙◌}
use Rattle.std.proofs.lemmas.Bool.{eqb-true}
use Rattle.std.proofs.lemmas.Bool.Decides.{Decides-and, Decides-ltb}
use Rattle.std.proofs.lemmas.Fmt.{decimal_is_IsNumeral_wide}
use Rattle.std.proofs.lemmas.Str.Parse.{IsNumeralModel, numerals_by_value, tells_all_ascii_digits, not_in_digits, without_leading_plus_none}
use Rattle.sw_tree.specs.Meaning.{Meaning, number}
use Rattle.sw_tree.specs.Laws.Utf8.{signed_decimal-utf8}
use Rattle.sw_check.specs.TextClass.{IsOfClass}
use Rattle.sw_elem.specs.Classes.{decimal_class}
use Rattle.sw_elem.specs.Text.{LawfulText}
use Rattle.sw_elem.specs.Integer.{IsWide, IsInteger}
use Rattle.sw_elem.specs.Numbers.{ranged}
use Rattle.sw_elem.specs.Decimal.{is_numeral, decimal_value, decimal_shows, decimal_parses}
use Rattle.sw_elem.specs.Laws.Classes.{digits_classed, signed_classed}
use Rattle.sw_elem.specs.Laws.Numbers.{wide_range, ranged_meaning}

digits : IsNumeralModel (λ ds. all_ascii_digits ds ≡ true) (digits_value 10)
digits = numerals_by_value (λ ds. all_ascii_digits ds ≡ true) tells_all_ascii_digits

pub is_numeral-decides : (ds : List ℕ) → Decides (is_numeral ds) (IsNumeral 10 ds)
is_numeral-decides ds =
    let all : Decides (all_ascii_digits ds) (AllDigits 10 ds) = (digits.to ds, digits.from ds) in
    Decides-and (nat_lt 0 (length ds)) (all_ascii_digits ds) (Decides-ltb 0 (length ds)) all

no_plus : (ds : List ℕ) → IsNumeral 10 ds → without_leading_plus ds ≡ ds
no_plus ds h = without_leading_plus_none ds (not_in_digits digits ds 43 (digits.from ds h.1) (λ r. omega arith) 0 h.0)

no_byte : (b : Bool) (x y : ℕ) → (x == y) ≡ b → (x ≡ y → ⊥) → b ≡ false
no_byte true x y e h = absurd (h (eqb-true x y e))
no_byte false x y e h = refl

no_minus : (ds : List ℕ) → IsNumeral 10 ds → starts_with_minus ds ≡ false
no_minus ds h = no_byte (slice_index ds 0 == 45) (slice_index ds 0) 45 refl (not_in_digits digits ds 45 (digits.from ds h.1) (λ r. omega arith) 0 h.0)

no_sign : (ds : List ℕ) → IsNumeral 10 ds → without_leading_sign ds ≡ ds
no_sign ds h = rw (no_minus ds h) (no_plus ds h)

-- digits behind a plus or not spell their number
pub unsigned_value : (n : ℕ) (s : List ℕ) → IsNumeral 10 (without_leading_plus s) → n ≡ digits_value 10 (without_leading_plus s) → decimal_value false s ≡ Some (pos n)
unfolding decimal_value
unsigned_value n s h e =
    let test : is_numeral (without_leading_plus s) ≡ true = (is_numeral-decides (without_leading_plus s)).1 h in
    rw (test, e) refl

-- and so do those behind a sign
pub signed_value : (z : ℤ) (s : List ℕ) → IsNumeral 10 (without_leading_sign s) → z ≡ signed_digits_value 10 s → decimal_value true s ≡ Some z
unfolding decimal_value
signed_value z s h e =
    let test : is_numeral (without_leading_sign s) ≡ true = (is_numeral-decides (without_leading_sign s)).1 h in
    rw (test, e) refl

-- what is shown spells the number
shown_value : (signed : Bool) (z : ℤ) → IsWide signed z → decimal_value signed (signed_decimal z) ≡ Some z
shown_value false (pos n) h =
    let numeral = decimal_is_IsNumeral_wide n (omega arith) in
    let plain = sym (no_plus (decimal n) numeral.0) in
    unsigned_value n (decimal n) (subst (IsNumeral 10) plain numeral.0) (sym numeral.1 ∙ ap (digits_value 10) plain)
shown_value false (negsuc n) h = absurd h
shown_value true (pos n) h =
    let small : n < 2 ^ 127 = h.sfits in
    let numeral = decimal_is_IsNumeral_wide n (omega arith) in
    let ds = decimal n in
    let value : signed_digits_value 10 ds ≡ pos n = rw (no_minus ds numeral.0) (ap (λ k. pos (digits_value 10 k)) (no_plus ds numeral.0) ∙ ap pos numeral.1) in
    signed_value (pos n) ds (subst (IsNumeral 10) (sym (no_sign ds numeral.0)) numeral.0) (sym value)
shown_value true (negsuc n) h =
    let small : n < 2 ^ 127 = h.sfits in
    let numeral = decimal_is_IsNumeral_wide (n + 1) (omega arith) in
    let is : suc n ≡ n + 1 = omega arith in
    let own = subst (λ k. IsNumeral 10 (decimal k) × (digits_value 10 (decimal k) ≡ k)) (sym is) numeral in
    let value : signed_digits_value 10 (signed_decimal (negsuc n)) ≡ negsuc n = rw own.1 refl in
    signed_value (negsuc n) (signed_decimal (negsuc n)) own.0 (sym value)

wide_classed : (signed : Bool) (z : ℤ) → IsWide signed z → IsOfClass (decimal_class signed) (signed_decimal z)
wide_classed false (pos n) h = digits_classed n (omega arith)
wide_classed false (negsuc n) h = absurd h
wide_classed true z h = signed_classed z h.sfits

module _ (signed : Bool) (fits : ℤ → Bool) (P : Meaning → Type 0) (law : IsInteger signed fits P) where
  shown_parses : (n : ℤ) → fits n ≡ true → decimal_parses signed fits (signed_decimal n) ≡ Some (number n)
  shown_parses n h =
      let is : ranged fits n ≡ Some (number n) = rw h refl in
      ap (λ (o : Option ℤ). option_and_then (ranged fits) o) (shown_value signed n (law.wide n h)) ∙ is

  shown : (v : Meaning) → P v → decimal_parses signed fits (decimal_shows v) ≡ Some v
  shown v h = let n = law.numbers v h in subst (λ (u : Meaning). decimal_parses signed fits (decimal_shows u) ≡ Some u) (sym n.1) (shown_parses n.0 n.2)

  classed : (v : Meaning) → P v → IsOfClass (decimal_class signed) (decimal_shows v)
  classed v h = let n = law.numbers v h in subst (λ (u : Meaning). IsOfClass (decimal_class signed) (decimal_shows u)) (sym n.1) (wide_classed signed n.0 (law.wide n.0 n.2))

  utf8 : (v : Meaning) → P v → IsUtf8 (decimal_shows v)
  utf8 v h = let n = law.numbers v h in subst (λ (u : Meaning). IsUtf8 (decimal_shows u)) (sym n.1) (signed_decimal-utf8 n.0 (wide_range signed n.0 (law.wide n.0 n.2)))

  parsed_value : (o : Option ℤ) (v : Meaning) → option_and_then (ranged fits) o ≡ Some v → P v
  parsed_value (Some n) v p = ranged_meaning signed fits P law n v p
  parsed_value None v p = absurd (cc)

  pub decimal_lawful : LawfulText P decimal_shows (decimal_parses signed fits) (decimal_class signed)
  decimal_lawful = record { shown = shown; classed = classed; utf8 = utf8; parsed = λ s v u p. parsed_value (decimal_value signed s) v p }
