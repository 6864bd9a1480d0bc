-- What std's parse of a whole number says, in the words of a text form.
use Rattle.std.specs.Prelude.{ℕ, zero, suc, ◌-ℤ◌, ◌<◌, ◌^◌, ◌≡◌, ℤ, List, ◌∷◌, Bool, true, false, if◌then◌else◌, Some, None, FitsSigned, pos, neg_ℤ, slice_index}
use Rattle.std.proofs.Common.{refl, sym, subst, arith, ap, ◌∙◌, eqb, inl, inr}
use Rattle.std.specs.Int.{w128}
use Rattle.std.specs.Str.Parse.{IsNumeral, digits_value, without_leading_plus, without_leading_sign, signed_digits_value}
use Rattle.std.proofs.lemmas.Bool.Decides.{eqb_tells}
use Rattle.std.proofs.lemmas.Int.{to_z-of_z, ints}
use mir.Val.{to_z, of_z}
use Rattle.std.proofs.lemmas.Str.Parse.{not_in_digits, without_leading_plus_none, digits_value_short}
use Rattle.sw_tree.specs.Number.{AreFew}
use Rattle.sw_tree.specs.Laws.Number.{digits_model, value_of-digits}
use Rattle.sw_elem.specs.Integer.{IsWide}
use Rattle.sw_elem.specs.Decimal.{is_numeral, decimal_value}
use Rattle.sw_elem.specs.Inner.Decimal.{IsSpelled, IsSignedNumeral}
use Rattle.sw_elem.specs.Laws.Decimal.{is_numeral-decides, unsigned_value}

-- no digits of which 128 bits hold the number
pub unsigned_none : (s : List ℕ) → ¬ (IsNumeral 10 (without_leading_plus s) × (digits_value 10 (without_leading_plus s) < 2 ^ 128)) → IsSpelled false None (decimal_value false s)
unfolding decimal_value
unsigned_none s h n e w = by (is_numeral (without_leading_plus s)) refl e w
  where
    by : (b : Bool) → is_numeral (without_leading_plus s) ≡ b → (if b then Some (pos (digits_value 10 (without_leading_plus s))) else None) ≡ Some n → IsWide false n → ⊥
    by true p q w =
        let same : pos (digits_value 10 (without_leading_plus s)) ≡ n = cc in
        let small : IsWide false (pos (digits_value 10 (without_leading_plus s))) = subst (IsWide false) (sym same) w in
        h ((is_numeral-decides (without_leading_plus s)).0 p, small)
    by false p q w = absurd (cc)

pub signed_none : (s : List ℕ) → ¬ (IsNumeral 10 (without_leading_sign s) × FitsSigned w128 (signed_digits_value 10 s)) → IsSpelled true None (decimal_value true s)
unfolding decimal_value
signed_none s h n e w = by (is_numeral (without_leading_sign s)) refl e w
  where
    by : (b : Bool) → is_numeral (without_leading_sign s) ≡ b → (if b then Some (signed_digits_value 10 s) else None) ≡ Some n → FitsSigned w128 n → ⊥
    by true p q w =
        let same : signed_digits_value 10 s ≡ n = cc in
        h ((is_numeral-decides (without_leading_sign s)).0 p, subst (FitsSigned w128) (sym same) w)
    by false p q w = absurd (cc)

-- ---- few digits

eqb_false : (a b : ℕ) → ¬ (a ≡ b) → eqb a b ≡ false
eqb_false a b h = elim (eqb_tells a b) [ inl y ↦ absurd (h y.1) | inr n ↦ n.0 ]

few-numeral : (ds : List ℕ) → AreFew ds → IsNumeral 10 ds
few-numeral ds h = (h.some, digits_model.to ds h.digits)

few-plain : (ds : List ℕ) → AreFew ds → without_leading_plus ds ≡ ds
few-plain ds h = without_leading_plus_none ds (not_in_digits digits_model ds 43 h.digits (λ r. omega arith) 0 h.some)

few-not_minus : (ds : List ℕ) → AreFew ds → slice_index ds 0 ≡ 45 → ⊥
few-not_minus ds h = not_in_digits digits_model ds 45 h.digits (λ r. omega arith) 0 h.some

pub few-decimal : (n : ℕ) (s : List ℕ) → AreFew s → n ≡ digits_value 10 s → decimal_value false s ≡ Some (pos n)
few-decimal n s h e =
    let plain = sym (few-plain s h) in
    unsigned_value n s (subst (IsNumeral 10) plain (few-numeral s h)) (e ∙ ap (digits_value 10) plain)

-- ---- the same behind a minus or not, as 128 bits hold it

few-small : (ds : List ℕ) → AreFew ds → digits_value 10 ds < 10 ^ 19
few-small ds h = subst (λ n. n < 10 ^ 19) (value_of-digits ds h.digits) (digits_value_short digits_model ds 19 h.digits h.few)

fits_plain : (n : ℕ) → n < 10 ^ 19 → FitsSigned w128 (pos n)
fits_plain n h = record { sfits = omega (arith, h) }

fits_negative : (n : ℕ) → n < 10 ^ 19 → FitsSigned w128 (neg_ℤ (pos n))
fits_negative zero h = record { sfits = omega (arith, h) }
fits_negative (suc k) h = record { sfits = omega (arith, h) }

from_zero : (n : ℕ) → (pos 0 -ℤ pos n) ≡ neg_ℤ (pos n)
from_zero n = omega (arith, ints)

pub held : (z w : ℤ) → z ≡ w → FitsSigned w128 w → to_z w128 (of_z w128 z) ≡ w
held z w e h = to_z-of_z w128 z (subst (FitsSigned w128) (sym e) h) ∙ e

pub held-numeral : (s : List ℕ) (z : ℤ) → IsSignedNumeral s z → IsSignedNumeral s (to_z w128 (of_z w128 z))
held-numeral s z h = subst (IsSignedNumeral s) (sym (held z z refl h.fits)) h

plain-numeral : (s : List ℕ) (n : ℕ) → AreFew s → n ≡ digits_value 10 s → IsSignedNumeral s (pos n)
plain-numeral s n h e =
    let no = eqb_false (slice_index s 0) 45 (few-not_minus s h) in
    let plain = sym (few-plain s h) in
    record {
      digits = rw no (subst (IsNumeral 10) plain (few-numeral s h));
      value = rw no (ap pos (e ∙ ap (digits_value 10) plain));
      fits = fits_plain n (rw e (few-small s h));
    }

pub few-plain_signed : (s : List ℕ) (n : ℕ) (z : ℤ) → AreFew s → n ≡ digits_value 10 s → z ≡ pos n → IsSignedNumeral s (to_z w128 (of_z w128 z))
few-plain_signed s n z h e k = held-numeral s z (subst (IsSignedNumeral s) (sym k) (plain-numeral s n h e))

negative-numeral : (ds : List ℕ) (n : ℕ) → AreFew ds → n ≡ digits_value 10 ds → IsSignedNumeral (45 ∷ ds) (neg_ℤ (pos n))
negative-numeral ds n h e = record {
  digits = few-numeral ds h;
  value = ap (λ m. neg_ℤ (pos m)) e;
  fits = fits_negative n (rw e (few-small ds h));
}

pub few-negative : (d : ℕ) (ds s : List ℕ) (n : ℕ) (z : ℤ) → s ≡ d ∷ ds → d ≡ 45 → AreFew ds → n ≡ digits_value 10 ds → z ≡ pos n → IsSignedNumeral s (to_z w128 (of_z w128 (pos 0 -ℤ to_z w128 (of_z w128 z))))
few-negative d ds s n z p q h e k =
    let own : IsSignedNumeral (45 ∷ ds) (neg_ℤ (pos n)) = negative-numeral ds n h e in
    let text : s ≡ 45 ∷ ds = p ∙ ap (λ b. b ∷ ds) q in
    let here : IsSignedNumeral s (neg_ℤ (pos n)) = subst (λ t. IsSignedNumeral t (neg_ℤ (pos n))) (sym text) own in
    let inner : to_z w128 (of_z w128 z) ≡ pos n = held z (pos n) k (fits_plain n (rw e (few-small ds h))) in
    let outer : (pos 0 -ℤ to_z w128 (of_z w128 z)) ≡ neg_ℤ (pos n) = ap (λ x. pos 0 -ℤ x) inner ∙ from_zero n in
    held-numeral s (pos 0 -ℤ to_z w128 (of_z w128 z)) (subst (IsSignedNumeral s) (sym outer) here)
