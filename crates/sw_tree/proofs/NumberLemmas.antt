-- The value of digits only grows, and digits of which the first isn't zero are an int.
use Rattle.std.proofs.Common.{◌≡◌, ◌≤◌, ◌<◌, ℕ, suc, ◌+◌, ◌*◌, ◌-◌, ◌^◌, List, [], ◌∷◌, length, drop, drop-cons, get_or, Bool, true, false, eqb, Option, Some, None, zero, ℤ, pos, refl, sym, ap, subst, ◌∙◌, arith}
use Rattle.std.specs.Prelude.{SomeIff, ◌&&◌, neg_ℤ}
use Rattle.std.specs.List.{list_all}
use Rattle.std.proofs.lemmas.Bool.Decides.{nat_tests}
use Rattle.std.specs.Str.Parse.{digits_value}
use Rattle.sw_tree.specs.Number.{is_digit, is_leading, is_int, AreFew, key_number}
use Rattle.sw_tree.specs.Laws.Number.{value_from, value_of, value_of-digits, negative}
use Rattle.sw_tree.specs.Inner.Number.{AreWide, IsWideInt}

pub value_grows : (ds : List ℕ) (n : ℕ) → n ≤ value_from n ds
value_grows [] n = omega arith
value_grows (d ∷ ds) n = omega (arith, value_grows ds (n * 10 + (d - 48)))

-- one digit more
pub grown : (digits : List ℕ) (i n : ℕ) → i < length digits → value_from n (drop i digits) ≡ value_of digits → n * 10 + (get_or digits i 0 - 48) ≤ value_of digits
grown digits i n h e =
    subst (λ z. n * 10 + (get_or digits i 0 - 48) ≤ z) (sym (ap (value_from n) (drop-cons digits i 0 h)) ∙ e) (value_grows (drop (suc i) digits) (n * 10 + (get_or digits i 0 - 48)))

no_zero : (d : ℕ) → (d ≡ 48 → ⊥) → eqb d 48 ≡ false
no_zero d h = grind (arith, nat_tests, h)

leads : (d : ℕ) → (d ≡ 48 → ⊥) → is_digit d ≡ is_leading d
unfolding is_digit is_leading
leads d h = grind (arith, nat_tests, h)

-- digits of which the first isn't zero
int_digits : (d : ℕ) (ds : List ℕ) → (d ≡ 48 → ⊥) → is_int (d ∷ ds) ≡ list_all is_digit (d ∷ ds)
int_digits d ds h = rw (no_zero d h) (ap (λ (b : Bool). b && list_all is_digit ds) (sym (leads d h)))

wide_by : (s : List ℕ) (r : Option ℕ) → is_int s ≡ list_all is_digit s → SomeIff r (AreWide s) (value_of s) → SomeIff r (IsWideInt s) (digits_value 10 s)
wide_by s None e h = λ w. h (record { digits = sym e ∙ w.int; small = subst (λ n. n < 2 ^ 128) (sym (value_of-digits s (sym e ∙ w.int))) w.small })
wide_by s (Some x) e h = let v = value_of-digits s h.0.digits in (record { int = e ∙ h.0.digits; small = subst (λ n. n < 2 ^ 128) v h.0.small }, h.1 ∙ v)

pub wide_int : (d : ℕ) (ds s : List ℕ) (r : Option ℕ) → s ≡ d ∷ ds → (d ≡ 48 → ⊥) → SomeIff r (AreWide s) (value_of s) → SomeIff r (IsWideInt s) (digits_value 10 s)
wide_int d ds s r e h k = wide_by s r (ap is_int e ∙ int_digits d ds h ∙ sym (ap (list_all is_digit) e)) k

pub few_digits : (s : List ℕ) (r : Option ℕ) → SomeIff r (AreFew s) (value_of s) → SomeIff r (AreFew s) (digits_value 10 s)
few_digits s None h = h
few_digits s (Some x) h = (h.0, h.1 ∙ value_of-digits s h.0.digits)

-- an int behind a minus
pub negative_number : (ds : List ℕ) (n : ℕ) (z : ℤ) → is_int ds ≡ true → n ≡ digits_value 10 ds → (n ≡ 0 → ⊥) → n ≤ 2 ^ 127 → z ≡ neg_ℤ (pos n) → Some z ≡ key_number (45 ∷ ds)
negative_number ds zero z i v some h e = absurd (some refl)
negative_number ds (suc n) z i v some h e = ap Some e ∙ sym (negative ds n i (sym v) h)
