-- What a number is printed as spells it.
use Rattle.std.specs.Prelude.{◌&&◌, ◌⊎◌, codes}
use Rattle.std.specs.Fmt.{signed_decimal}
use Rattle.std.specs.List.{list_all}
use Rattle.std.proofs.Common.{◌≡◌, ℕ, List, [], ◌∷◌, true, eqb, inl, inr, ◌++◌, append-nil, ap, sym, refl, subst, ℤ}
use Rattle.sw_tree.specs.Number.{IsInRange}
use Rattle.sw_tree.specs.Number as number
use Rattle.sw_tree.specs.Laws.Number.{signed_decimal_text}
use Rattle.sw_json.specs.Bytes.{is_digit, is_leading}
use Rattle.sw_json.specs.Grammar.{IsInt, IsNumber}
use Rattle.sw_json.specs.Laws.Fronts.{and_left, and_right}
use Rattle.sw_json.specs.Laws.Numbers.{chosen, is_eq, empty_is}

int_is : (s : List ℕ) → number.is_int s ≡ true → IsInt s
int_is [] h = cc
int_is (d ∷ ds) h =
    elim (chosen (eqb d 48) (number.is_empty ds) (is_leading d && list_all is_digit ds) true h) [
      | inl y ↦ inl (is_eq d 48 y.0, empty_is ds y.1)
      | inr n ↦ inr (and_left (is_leading d) (list_all is_digit ds) n.1, and_right (is_leading d) (list_all is_digit ds) n.1)
    ]

number_of : (g s : List ℕ) → (g ≡ []) ⊎ (g ≡ codes "-") → IsInt s → IsNumber (g ++ s)
number_of g s h i = record {
  sign = g;
  int = s;
  fraction = [];
  exponent = [];
  parts = ap (λ x. g ++ x) (sym (append-nil s));
  is_sign = h;
  is_int = i;
  is_fraction = tt;
  is_exponent = tt;
}

number_is : (s : List ℕ) → number.is_number s ≡ true → IsNumber s
number_is [] h = absurd (cc)
number_is (b ∷ bs) h =
    elim (chosen (eqb b 45) (number.is_int bs) (number.is_int (b ∷ bs)) true h) [
      | inl y ↦ subst (λ (c : ℕ). IsNumber (c ∷ bs)) (sym (is_eq b 45 y.0)) (number_of (codes "-") bs (inr refl) (int_is bs y.1))
      | inr n ↦ number_of [] (b ∷ bs) (inl refl) (int_is (b ∷ bs) n.1)
    ]

-- A number within range is printed as the grammar spells a number.
pub decimal_number : (n : ℤ) → IsInRange n → IsNumber (signed_decimal n)
decimal_number n h = number_is (signed_decimal n) (signed_decimal_text n h).number
