-- A number is found by its sign, its digits, and what follows them.
use Rattle.std.specs.Prelude.{◌⊎◌, ◌||◌, not, codes, ◌&&◌}
use Rattle.std.specs.List.{list_all}
use Rattle.std.proofs.Common.{◌≡◌, Bool, true, false, cond, refl, inl, inr, ℕ, eqb, arith, List, [], ◌∷◌, ◌++◌, ◌∙◌, ap, ◌<◌, length, length-append}
use Rattle.std.proofs.lemmas.Bool.Decides.{nat_tests}
use Rattle.sw_json.specs.Bytes.{is_leading, is_digit, is_number_byte, Stops, front, behind}
use Rattle.sw_json.specs.Grammar.{AreDigits, IsInt, AreSigned, IsExponent, IsFraction, IsNumber}
use Rattle.sw_json.specs.Lexing.{is_empty, are_digits, is_int, are_signed, is_exponent, is_tail, is_unsigned, is_number}
use Rattle.sw_json.specs.Laws.Fronts.{and_left, and_right, front_is, behind_is, split, front_passes, all_append}

pub chosen : {A : Type 0} (b : Bool) (x y z : A) → cond b x y ≡ z → ((b ≡ true) × (x ≡ z)) ⊎ ((b ≡ false) × (y ≡ z))
chosen true x y z h = inl (refl, h)
chosen false x y z h = inr (refl, h)

pub is_eq : (a b : ℕ) → eqb a b ≡ true → a ≡ b
is_eq a b h = grind (arith, nat_tests)

either : (a b : Bool) → (a || b) ≡ true → (a ≡ true) ⊎ (b ≡ true)
either true b h = inl refl
either false b h = inr h

pub empty_is : (s : List ℕ) → is_empty s ≡ true → s ≡ []
empty_is [] h = refl
empty_is (b ∷ bs) h = cc

-- ---- bytes
pub leading_isnt_minus : (d : ℕ) → is_leading d ≡ true → eqb d 45 ≡ false
unfolding is_leading
leading_isnt_minus d h = grind (arith, nat_tests)

pub leading_digit : (b : ℕ) → is_leading b ≡ true → is_digit b ≡ true
unfolding is_leading is_digit
leading_digit b h = grind (arith, nat_tests)

zero_digit : is_digit 48 ≡ true
unfolding is_digit
zero_digit = refl

digit_isnt_sign : (d : ℕ) → is_digit d ≡ true → (eqb d 43 ≡ false) × (eqb d 45 ≡ false)
unfolding is_digit
digit_isnt_sign d h = (grind (arith, nat_tests), grind (arith, nat_tests))

-- a point, and the letters of an exponent, are no digits
pub point_isnt_digit : is_digit 46 ≡ false
unfolding is_digit
point_isnt_digit = refl

pub letter_isnt_digit : (is_digit 101 ≡ false) × (is_digit 69 ≡ false)
unfolding is_digit
letter_isnt_digit = (refl, refl)

digit_byte : (b : ℕ) → is_digit b ≡ true → is_number_byte b ≡ true
unfolding is_number_byte
digit_byte b h = rw h refl

other_bytes : (is_number_byte 43 ≡ true) × (is_number_byte 45 ≡ true) × (is_number_byte 46 ≡ true) × (is_number_byte 69 ≡ true) × (is_number_byte 101 ≡ true)
unfolding is_number_byte is_digit
other_bytes = (refl, refl, refl, refl, refl)

-- ---- digits
digits_all : (s : List ℕ) → AreDigits s → list_all is_digit s ≡ true
digits_all [] h = absurd h
digits_all (d ∷ ds) h = rw h.0 h.1

digits_pass : (s : List ℕ) → AreDigits s → are_digits s ≡ true
digits_pass [] h = absurd h
digits_pass (d ∷ ds) h = rw h.0 h.1

digits_are : (s : List ℕ) → are_digits s ≡ true → AreDigits s
digits_are [] h = cc
digits_are (d ∷ ds) h = (and_left (is_digit d) (list_all is_digit ds) h, and_right (is_digit d) (list_all is_digit ds) h)

digits_some : (s : List ℕ) → AreDigits s → not (is_empty s) ≡ true
digits_some [] h = absurd h
digits_some (d ∷ ds) h = refl

some_digits : (s : List ℕ) → not (is_empty s) ≡ true → list_all is_digit s ≡ true → AreDigits s
some_digits [] h k = cc
some_digits (d ∷ ds) h k = (and_left (is_digit d) (list_all is_digit ds) k, and_right (is_digit d) (list_all is_digit ds) k)

-- ---- the int
pub int_all : (s : List ℕ) → IsInt s → list_all is_digit s ≡ true
int_all [] h = absurd h
int_all (d ∷ ds) (inl z) = rw (z.0, z.1, zero_digit) refl
int_all (d ∷ ds) (inr n) = rw (leading_digit d n.0) n.1

or_true : (a b : Bool) → b ≡ true → (a || b) ≡ true
or_true true b h = refl
or_true false b h = h

int_passes : (s : List ℕ) → IsInt s → is_int s ≡ true
int_passes [] h = absurd h
int_passes (d ∷ ds) (inl z) = rw z.1 refl
int_passes (d ∷ ds) (inr n) = or_true (is_empty ds) (is_leading d) n.0

cond_same : (b : Bool) → cond b true false ≡ b
cond_same true = refl
cond_same false = refl

zero_or_leading : (d : ℕ) → is_digit d ≡ true → (d ≡ 48) ⊎ (is_leading d ≡ true)
unfolding is_digit is_leading
zero_or_leading d h = elim (chosen (eqb d 48) true false (eqb d 48) (cond_same (eqb d 48))) [
  | inl z ↦ inl (is_eq d 48 z.0)
  | inr n ↦ inr (grind (arith, nat_tests, n.0))
]

int_by : (d : ℕ) (ds : List ℕ) → (is_empty ds ≡ true) ⊎ (is_leading d ≡ true) → (d ≡ 48) ⊎ (is_leading d ≡ true) → list_all is_digit ds ≡ true → IsInt (d ∷ ds)
int_by d ds (inr l) y k = inr (l, k)
int_by d ds (inl e) (inr l) k = inr (l, k)
int_by d ds (inl e) (inl z) k = inl (z, empty_is ds e)

is_int-IsInt : (s : List ℕ) → is_int s ≡ true → list_all is_digit s ≡ true → IsInt s
is_int-IsInt [] h k = cc
is_int-IsInt (d ∷ ds) h k = int_by d ds (either (is_empty ds) (is_leading d) h) (zero_or_leading d (and_left (is_digit d) (list_all is_digit ds) k)) (and_right (is_digit d) (list_all is_digit ds) k)

-- ---- the exponent
signed_by : (b : ℕ) (bs : List ℕ) → (b ≡ 43) ⊎ (b ≡ 45) → AreDigits bs → are_signed (b ∷ bs) ≡ true
signed_by b bs (inl e) h = rw e (digits_pass bs h)
signed_by b bs (inr e) h = rw e (digits_pass bs h)

signed_pass : (s : List ℕ) → AreDigits s ⊎ AreSigned s → are_signed s ≡ true
signed_pass [] (inl h) = absurd h
signed_pass [] (inr h) = absurd h
signed_pass (b ∷ bs) (inl h) = rw ((digit_isnt_sign b h.0).0, (digit_isnt_sign b h.0).1) (digits_pass (b ∷ bs) h)
signed_pass (b ∷ bs) (inr h) = signed_by b bs h.0 h.1

sign_is : (b : ℕ) → (eqb b 43 || eqb b 45) ≡ true → (b ≡ 43) ⊎ (b ≡ 45)
sign_is b h = elim (either (eqb b 43) (eqb b 45) h) [
  | inl e ↦ inl (is_eq b 43 e)
  | inr e ↦ inr (is_eq b 45 e)
]

signed_are : (s : List ℕ) → are_signed s ≡ true → AreDigits s ⊎ AreSigned s
signed_are [] h = cc
signed_are (b ∷ bs) h = elim (chosen (eqb b 43 || eqb b 45) (are_digits bs) (are_digits (b ∷ bs)) true h) [
  | inl m ↦ inr (sign_is b m.0, digits_are bs m.1)
  | inr n ↦ inl (digits_are (b ∷ bs) n.1)
]

exponent_by : (b : ℕ) (bs : List ℕ) → (b ≡ 101) ⊎ (b ≡ 69) → are_signed bs ≡ true → is_exponent (b ∷ bs) ≡ true
exponent_by b bs (inl e) h = rw e h
exponent_by b bs (inr e) h = rw e h

exponent_passes : (s : List ℕ) → IsExponent s → is_exponent s ≡ true
exponent_passes [] h = refl
exponent_passes (b ∷ bs) h = exponent_by b bs h.0 (signed_pass bs h.1)

letter_is : (b : ℕ) → (eqb b 101 || eqb b 69) ≡ true → (b ≡ 101) ⊎ (b ≡ 69)
letter_is b h = elim (either (eqb b 101) (eqb b 69) h) [
  | inl e ↦ inl (is_eq b 101 e)
  | inr e ↦ inr (is_eq b 69 e)
]

exponent_is : (s : List ℕ) → is_exponent s ≡ true → IsExponent s
exponent_is [] h = tt
exponent_is (b ∷ bs) h = (letter_is b (and_left (eqb b 101 || eqb b 69) (are_signed bs) h), signed_are bs (and_right (eqb b 101 || eqb b 69) (are_signed bs) h))

letter_stops : (b : ℕ) → (b ≡ 101) ⊎ (b ≡ 69) → is_digit b ≡ false
letter_stops b (inl e) = rw e letter_isnt_digit.0
letter_stops b (inr e) = rw e letter_isnt_digit.1

exponent_stops : (s : List ℕ) → IsExponent s → Stops is_digit s
exponent_stops [] h = tt
exponent_stops (b ∷ bs) h = letter_stops b h.0

-- ---- the fraction and the exponent
letter_isnt_point : (b : ℕ) → (b ≡ 101) ⊎ (b ≡ 69) → eqb b 46 ≡ false
letter_isnt_point b (inl e) = rw e refl
letter_isnt_point b (inr e) = rw e refl

power_tail : (s : List ℕ) → IsExponent s → is_tail s ≡ true
power_tail [] h = refl
power_tail (b ∷ bs) h = rw (letter_isnt_point b h.0) (exponent_passes (b ∷ bs) h)

tail_passes : (f e : List ℕ) → IsFraction f → IsExponent e → is_tail (f ++ e) ≡ true
tail_passes [] e h k = power_tail e k
tail_passes (b ∷ ds) e h k =
    let stops = exponent_stops e k in
    let all = digits_all ds h.1 in
    rw (h.0) (rw (front_is is_digit ds e all stops, behind_is is_digit ds e all stops, digits_some ds h.1, exponent_passes e k) refl)

tail_stops : (f e : List ℕ) → IsFraction f → IsExponent e → Stops is_digit (f ++ e)
tail_stops [] e h k = exponent_stops e k
tail_stops (b ∷ ds) e h k = rw (h.0) point_isnt_digit

-- ---- the number
unsigned_passes : (i f e : List ℕ) → IsInt i → IsFraction f → IsExponent e → is_unsigned (i ++ (f ++ e)) ≡ true
unsigned_passes i f e h j k =
    let stops = tail_stops f e j k in
    let all = int_all i h in
    rw (front_is is_digit i (f ++ e) all stops, behind_is is_digit i (f ++ e) all stops, int_passes i h, tail_passes f e j k) refl

int_isnt_minus : (i k : List ℕ) → IsInt i → is_number (i ++ k) ≡ is_unsigned (i ++ k)
int_isnt_minus [] k h = absurd h
int_isnt_minus (d ∷ ds) k (inl z) = rw (z.0) refl
int_isnt_minus (d ∷ ds) k (inr n) = rw (leading_isnt_minus d n.0) refl

number_by : (g i f e : List ℕ) → (g ≡ []) ⊎ (g ≡ codes "-") → IsInt i → IsFraction f → IsExponent e → is_number (g ++ (i ++ (f ++ e))) ≡ true
number_by g i f e (inl n) h j k = rw n (int_isnt_minus i (f ++ e) h ∙ unsigned_passes i f e h j k)
number_by g i f e (inr m) h j k = rw m (unsigned_passes i f e h j k)

pub number_passes : (s : List ℕ) → IsNumber s → is_number s ≡ true
number_passes s n = ap is_number n.parts ∙ number_by n.sign n.int n.fraction n.exponent n.is_sign n.is_int n.is_fraction n.is_exponent

-- a fraction and an exponent
record IsTail (s : List ℕ) : Type 0 where
  fraction : List ℕ
  exponent : List ℕ
  parts : s ≡ fraction ++ exponent
  is_fraction : IsFraction fraction
  is_exponent : IsExponent exponent

tail_is : (s : List ℕ) → is_tail s ≡ true → IsTail s
tail_is [] h = record { fraction = []; exponent = []; parts = refl; is_fraction = tt; is_exponent = tt }
tail_is (b ∷ bs) h = elim (chosen (eqb b 46) (not (is_empty (front is_digit bs)) && is_exponent (behind is_digit bs)) (is_exponent (b ∷ bs)) true h) [
  | inl m ↦
      let some = and_left (not (is_empty (front is_digit bs))) (is_exponent (behind is_digit bs)) m.1 in
      let power = and_right (not (is_empty (front is_digit bs))) (is_exponent (behind is_digit bs)) m.1 in
      record {
        fraction = b ∷ front is_digit bs;
        exponent = behind is_digit bs;
        parts = ap (λ x. b ∷ x) (split is_digit bs);
        is_fraction = (is_eq b 46 m.0, some_digits (front is_digit bs) some (front_passes is_digit bs));
        is_exponent = exponent_is (behind is_digit bs) power;
      }
  | inr n ↦ record { fraction = []; exponent = b ∷ bs; parts = refl; is_fraction = tt; is_exponent = exponent_is (b ∷ bs) n.1 }
]

number_of : (g s : List ℕ) → (g ≡ []) ⊎ (g ≡ codes "-") → is_unsigned s ≡ true → IsNumber (g ++ s)
number_of g s h k =
    let t = tail_is (behind is_digit s) (and_right (is_int (front is_digit s)) (is_tail (behind is_digit s)) k) in
    record {
      sign = g;
      int = front is_digit s;
      fraction = t.fraction;
      exponent = t.exponent;
      parts = ap (λ x. g ++ x) (split is_digit s ∙ ap (λ x. front is_digit s ++ x) t.parts);
      is_sign = h;
      is_int = is_int-IsInt (front is_digit s) (and_left (is_int (front is_digit s)) (is_tail (behind is_digit s)) k) (front_passes is_digit s);
      is_fraction = t.is_fraction;
      is_exponent = t.is_exponent;
    }

pub is_number-IsNumber : (s : List ℕ) → is_number s ≡ true → IsNumber s
is_number-IsNumber [] h = cc
is_number-IsNumber (b ∷ bs) h = elim (chosen (eqb b 45) (is_unsigned bs) (is_unsigned (b ∷ bs)) true h) [
  | inl m ↦ rw (is_eq b 45 m.0) (number_of (codes "-") bs (inr refl) m.1)
  | inr n ↦ number_of [] (b ∷ bs) (inl refl) n.1
]

-- ---- a number is made of its bytes
digit_bytes : (s : List ℕ) → list_all is_digit s ≡ true → list_all is_number_byte s ≡ true
digit_bytes [] h = refl
digit_bytes (b ∷ bs) h = rw (digit_byte b (and_left (is_digit b) (list_all is_digit bs) h)) (digit_bytes bs (and_right (is_digit b) (list_all is_digit bs) h))

sign_bytes : (g : List ℕ) → (g ≡ []) ⊎ (g ≡ codes "-") → list_all is_number_byte g ≡ true
sign_bytes g (inl n) = rw n refl
sign_bytes g (inr m) = rw (m, other_bytes.1) refl

fraction_bytes : (s : List ℕ) → IsFraction s → list_all is_number_byte s ≡ true
fraction_bytes [] h = refl
fraction_bytes (b ∷ ds) h = rw (h.0, other_bytes.2) (digit_bytes ds (digits_all ds h.1))

plus_or_minus : (b : ℕ) → (b ≡ 43) ⊎ (b ≡ 45) → is_number_byte b ≡ true
plus_or_minus b (inl e) = rw e other_bytes.0
plus_or_minus b (inr e) = rw e other_bytes.1

signed_bytes : (s : List ℕ) → AreDigits s ⊎ AreSigned s → list_all is_number_byte s ≡ true
signed_bytes s (inl h) = digit_bytes s (digits_all s h)
signed_bytes [] (inr h) = absurd h
signed_bytes (b ∷ bs) (inr h) = rw (plus_or_minus b h.0) (digit_bytes bs (digits_all bs h.1))

letter_byte : (b : ℕ) → (b ≡ 101) ⊎ (b ≡ 69) → is_number_byte b ≡ true
letter_byte b (inl e) = rw e other_bytes.4
letter_byte b (inr e) = rw e other_bytes.3

exponent_bytes : (s : List ℕ) → IsExponent s → list_all is_number_byte s ≡ true
exponent_bytes [] h = refl
exponent_bytes (b ∷ bs) h = rw (letter_byte b h.0) (signed_bytes bs h.1)

pub number_bytes : (s : List ℕ) → IsNumber s → list_all is_number_byte s ≡ true
number_bytes s n =
    ap (list_all is_number_byte) n.parts
    ∙ all_append is_number_byte n.sign (n.int ++ (n.fraction ++ n.exponent)) (sign_bytes n.sign n.is_sign)
    (all_append is_number_byte n.int (n.fraction ++ n.exponent) (digit_bytes n.int (int_all n.int n.is_int))
    (all_append is_number_byte n.fraction n.exponent (fraction_bytes n.fraction n.is_fraction) (exponent_bytes n.exponent n.is_exponent)))

int_length : (s : List ℕ) → IsInt s → 0 < length s
int_length [] h = absurd h
int_length (b ∷ bs) h = omega arith

pub number_length : (s : List ℕ) → IsNumber s → 0 < length s
number_length s n =
    omega (arith, ap length n.parts, length-append n.sign (n.int ++ (n.fraction ++ n.exponent)), length-append n.int (n.fraction ++ n.exponent), int_length n.int n.is_int)
