-- The decimal text of a number spells that number; and the value of digits, one after another.
use Rattle.std.specs.Prelude.{◌≡◌, ℕ, ◌≤◌, true, ◌<◌, false, ◌+◌, ◌&&◌, ◌-◌, ◌*◌, List, [], ◌∷◌, ◌++◌, Bool, ◌/◌, ◌%◌, ◌^◌, pos, Some, suc, negsuc, zero, ℤ, None, if◌then◌else◌}
use Rattle.std.specs.List.{list_all}
use Rattle.std.specs.Fmt.{decimal, signed_decimal}
use Rattle.std.specs.Str.Parse.{digits_value}
use Rattle.std.proofs.Common.{arith, inl, inr, leb, ltb, eqb, refl, ap, sym, rules, ◌∙◌}
use Rattle.std.proofs.lemmas.Bool.Decides.{leb_tells, Decides-ltb, eqb_tells}
use Rattle.std.proofs.lemmas.List.Folds.{list_all-append}
use Rattle.std.proofs.lemmas.Fmt.{decimal_by_steps_wide, decimal_digit}
use Rattle.std.proofs.lemmas.Bool.{and_parts}
use Rattle.std.proofs.lemmas.Str.Parse.{IsNumeralModel, numerals_by_fold}
use Rattle.sw_tree.specs.Number.{is_digit, is_leading, is_int, key_number, IsInRange, is_number, is_whole, int_of}

-- digits behind a number, in base ten
abbrev pub value_from : ℕ → List ℕ → ℕ
value_from n [] = n
value_from n (d ∷ ds) = value_from (n * 10 + (d - 48)) ds

abbrev pub value_of : List ℕ → ℕ
value_of ds = value_from 0 ds

abbrev pub AreDigits : List ℕ → Type 0
AreDigits ds = list_all is_digit ds ≡ true

-- that is their value
pub digits_model : IsNumeralModel AreDigits value_of
unfolding is_digit
digits_model = numerals_by_fold AreDigits (search rules) value_from (search rules)

pub value_of-digits : (ds : List ℕ) → AreDigits ds → value_of ds ≡ digits_value 10 ds
value_of-digits ds h = digits_model.same ds (digits_model.to ds h)

leb_yes : (a b : ℕ) → a ≤ b → leb a b ≡ true
leb_yes a b h = elim (leb_tells a b) [ inl y ↦ y.0 | inr n ↦ absurd (omega (arith, h, n.1)) ]

ltb_yes : (a b : ℕ) → a < b → ltb a b ≡ true
ltb_yes a b h = (Decides-ltb a b).1 h

eqb_no : (a b : ℕ) → (a ≡ b → ⊥) → eqb a b ≡ false
eqb_no a b h = elim (eqb_tells a b) [ inl y ↦ absurd (h y.1) | inr n ↦ n.0 ]

digit_at : (k : ℕ) → k < 10 → is_digit (48 + k) ≡ true
unfolding is_digit
digit_at k h = rw (leb_yes 48 (48 + k) (omega arith), leb_yes (48 + k) 57 (omega arith)) refl

leading_at : (k : ℕ) → 0 < k → k < 10 → is_leading (48 + k) ≡ true
unfolding is_leading
leading_at k some h = rw (leb_yes 49 (48 + k) (omega arith), leb_yes (48 + k) 57 (omega arith)) refl

above_zero : (d : ℕ) → is_leading d ≡ true → 48 < d
unfolding is_leading
above_zero d h = elim (leb_tells 49 d) [ inl y ↦ omega (arith, y.1) | inr n ↦ absurd (cc (ap (λ b. b && leb d 57) n.0, h)) ]

value_from-push : (n : ℕ) (ds : List ℕ) (d : ℕ) → value_from n (ds ++ d ∷ []) ≡ value_from n ds * 10 + (d - 48)
value_from-push n [] d = refl
value_from-push n (e ∷ ds) d = value_from-push (n * 10 + (e - 48)) ds d

abbrev leads : List ℕ → Bool
leads [] = false
leads (d ∷ ds) = is_leading d

leads-push : (ds es : List ℕ) → leads ds ≡ true → leads (ds ++ es) ≡ true
leads-push [] es h = absurd (cc)
leads-push (d ∷ ds) es h = h

-- digits that spell a number, the first of which isn't zero where the number isn't
record Spells (n : ℕ) (ds : List ℕ) : Type 0 where
  value : value_of ds ≡ n
  digits : list_all is_digit ds ≡ true
  leading : 0 < n → leads ds ≡ true

one_digit : (n : ℕ) → n < 10 → Spells n ((48 + n) ∷ [])
one_digit n h = record { value = omega arith; digits = rw (digit_at n h) refl; leading = λ some. leading_at n some h }

one_more : (n : ℕ) (ds : List ℕ) → 10 ≤ n → Spells (n / 10) ds → Spells n (ds ++ (48 + n % 10) ∷ [])
one_more n ds h s =
    let pushed : value_of (ds ++ (48 + n % 10) ∷ []) ≡ value_of ds * 10 + (48 + n % 10 - 48) = value_from-push 0 ds (48 + n % 10) in
    let low : n % 10 < 10 = omega arith in
    record {
      value = omega (arith, pushed, s.value);
      digits = rw (list_all-append is_digit ds ((48 + n % 10) ∷ []), s.digits, digit_at (n % 10) low) refl;
      leading = λ some. leads-push ds ((48 + n % 10) ∷ []) (s.leading (omega arith));
    }

decimal_spells : (n : ℕ) → n < 10 ^ 64 → Spells n (decimal n)
decimal_spells = decimal_by_steps_wide Spells one_digit one_more

int_from_leading : (ds : List ℕ) → leads ds ≡ true → list_all is_digit ds ≡ true → is_int ds ≡ true
int_from_leading [] h k = absurd (cc)
int_from_leading (d ∷ ds) h k = rw (eqb_no d 48 (λ e. omega (arith, e, above_zero d h)), h, (and_parts (is_digit d) (list_all is_digit ds) k).1) refl

-- digits before which no minus stands
unsigned : (ds : List ℕ) (n : ℕ) → leads ds ≡ true → is_int ds ≡ true → digits_value 10 ds ≡ n → n < 2 ^ 128 → key_number ds ≡ Some (pos n)
unsigned [] n l i v h = absurd (cc)
unsigned (d ∷ ds) n l i v h = rw (eqb_no d 45 (λ e. omega (arith, e, above_zero d l)), i, v, ltb_yes n (2 ^ 128) h) refl

pub negative : (ds : List ℕ) (n : ℕ) → is_int ds ≡ true → digits_value 10 ds ≡ suc n → n < 2 ^ 127 → key_number (45 ∷ ds) ≡ Some (negsuc n)
negative ds n i v h = rw (i, v, ltb_yes 0 (suc n) (omega arith), leb_yes (suc n) (2 ^ 127) (omega arith)) refl

natural : (n : ℕ) → n < 2 ^ 128 → key_number (decimal n) ≡ Some (pos n)
natural zero h = ap key_number (decimal_digit 0 (omega arith))
natural (suc n) h =
    let s = decimal_spells (suc n) (omega arith) in
    let l = s.leading (omega arith) in
    unsigned (decimal (suc n)) (suc n) l (int_from_leading _ l s.digits) (sym (value_of-digits (decimal (suc n)) s.digits) ∙ s.value) h

pub key_number-signed_decimal : (z : ℤ) → IsInRange z → key_number (signed_decimal z) ≡ Some z
key_number-signed_decimal (pos n) h = natural n h
key_number-signed_decimal (negsuc n) h =
    let s = decimal_spells (suc n) (omega arith) in
    let l = s.leading (omega arith) in
    negative (decimal (suc n)) n (int_from_leading _ l s.digits) (sym (value_of-digits (decimal (suc n)) s.digits) ∙ s.value) h

-- a text that spells the number, with no fraction and no exponent
pub record IsTextOf (z : ℤ) (s : List ℕ) : Type 0 where
  pub number : is_number s ≡ true
  pub whole : is_whole s ≡ true
  pub value : int_of s ≡ z

by_tests : (a b : Bool) (y z : ℤ) → (if a then (if b then Some y else None) else None) ≡ Some z → (a ≡ true) × (b ≡ true) × (y ≡ z)
by_tests true true y z e = (refl, refl, cc)
by_tests true false y z e = absurd (cc)
by_tests false b y z e = absurd (cc)

pub signed_decimal_text : (z : ℤ) → IsInRange z → IsTextOf z (signed_decimal z)
signed_decimal_text z h =
    let t = by_tests (is_number (signed_decimal z)) (is_whole (signed_decimal z)) (int_of (signed_decimal z)) z (key_number-signed_decimal z h) in
    record { number = t.0; whole = t.1; value = t.2 }
