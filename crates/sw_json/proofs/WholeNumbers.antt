-- The value of a number is that of its digits, and only where they are all of it.
use Rattle.std.specs.Prelude.{◌&&◌, ◌⊎◌, codes}
use Rattle.std.specs.List.{list_all}
use Rattle.std.proofs.Common.{◌≡◌, Bool, true, false, cond, refl, ℕ, eqb, arith, List, [], ◌∷◌, inl, inr, ◌∙◌, ◌++◌, ap, append-nil, None}
use Rattle.std.proofs.lemmas.Bool.Decides.{nat_tests}
use Rattle.sw_tree.specs.Number.{whole_of, key_number}
use Rattle.sw_tree.specs.Number as number
use Rattle.sw_json.specs.Bytes.{is_leading, is_digit}
use Rattle.sw_json.specs.Grammar.{IsInt, IsNumber, IsFraction, IsExponent}
use Rattle.sw_json.specs.Laws.Numbers.{leading_isnt_minus, point_isnt_digit, letter_isnt_digit}

if_true : {A : Type 0} (b : Bool) (x y : A) → b ≡ true → cond b x y ≡ x
if_true true x y h = refl
if_true false x y h = absurd (cc)

if_false : {A : Type 0} (b : Bool) (x y : A) → b ≡ false → cond b x y ≡ y
if_false true x y h = absurd (cc)
if_false false x y h = refl

and_false : (a b : Bool) → b ≡ false → (a && b) ≡ false
and_false true b h = h
and_false false b h = refl

leading_isnt_zero : (d : ℕ) → is_leading d ≡ true → eqb d 48 ≡ false
unfolding is_leading
leading_isnt_zero d h = grind (arith, nat_tests)

-- ---- digits alone
int_is : (s : List ℕ) → IsInt s → number.is_int s ≡ true
int_is [] h = absurd h
int_is (d ∷ ds) (inl z) = rw (z.0, z.1) refl
int_is (d ∷ ds) (inr n) = rw (leading_isnt_zero d n.0, n.0, n.1) refl

unsigned_is : (s : List ℕ) → IsInt s → number.is_number s ≡ true
unsigned_is [] h = absurd h
unsigned_is (d ∷ ds) (inl z) = rw (z.0, z.1) refl
unsigned_is (d ∷ ds) (inr n) = if_false (eqb d 45) (number.is_int ds) (number.is_int (d ∷ ds)) (leading_isnt_minus d n.0) ∙ int_is (d ∷ ds) (inr n)

number_is : (g s : List ℕ) → (g ≡ []) ⊎ (g ≡ codes "-") → IsInt s → number.is_number (g ++ s) ≡ true
number_is g s (inl e) h = ap (λ x. number.is_number (x ++ s)) e ∙ unsigned_is s h
number_is g s (inr e) h = ap (λ x. number.is_number (x ++ s)) e ∙ int_is s h

-- Without a fraction and an exponent its value is that of its digits.
pub plain_value : (s : List ℕ) (n : IsNumber s) → n.fraction ++ n.exponent ≡ [] → key_number s ≡ whole_of s
plain_value s n h =
    let parts : s ≡ n.sign ++ n.int = n.parts ∙ ap (λ x. n.sign ++ (n.int ++ x)) h ∙ ap (λ x. n.sign ++ x) (append-nil n.int) in
    if_true (number.is_number s) (whole_of s) None (ap number.is_number parts ∙ number_is n.sign n.int n.is_sign n.is_int)

-- ---- digits with a fraction or an exponent behind them
digits_stop : (ds : List ℕ) (b : ℕ) (r : List ℕ) → is_digit b ≡ false → list_all is_digit (ds ++ b ∷ r) ≡ false
digits_stop [] b r h = rw h refl
digits_stop (d ∷ ds) b r h = and_false (is_digit d) (list_all is_digit (ds ++ b ∷ r)) (digits_stop ds b r h)

int_stops : (s : List ℕ) (b : ℕ) (r : List ℕ) → IsInt s → is_digit b ≡ false → number.is_int (s ++ b ∷ r) ≡ false
int_stops [] b r h k = absurd h
int_stops (d ∷ ds) b r (inl z) k = rw (z.0, z.1) refl
int_stops (d ∷ ds) b r (inr n) k =
    if_false (eqb d 48) (number.is_empty (ds ++ b ∷ r)) (is_leading d && list_all is_digit (ds ++ b ∷ r)) (leading_isnt_zero d n.0)
    ∙ and_false (is_leading d) (list_all is_digit (ds ++ b ∷ r)) (digits_stop ds b r k)

unsigned_stops : (s : List ℕ) (b : ℕ) (r : List ℕ) → IsInt s → is_digit b ≡ false → number.is_number (s ++ b ∷ r) ≡ false
unsigned_stops [] b r h k = absurd h
unsigned_stops (d ∷ ds) b r (inl z) k = rw (z.0, z.1) refl
unsigned_stops (d ∷ ds) b r (inr n) k =
    if_false (eqb d 45) (number.is_int (ds ++ b ∷ r)) (number.is_int (d ∷ (ds ++ b ∷ r))) (leading_isnt_minus d n.0) ∙ int_stops (d ∷ ds) b r (inr n) k

number_stops : (g s : List ℕ) (b : ℕ) (r : List ℕ) → (g ≡ []) ⊎ (g ≡ codes "-") → IsInt s → is_digit b ≡ false → number.is_number (g ++ (s ++ b ∷ r)) ≡ false
number_stops g s b r (inl e) h k = ap (λ x. number.is_number (x ++ (s ++ b ∷ r))) e ∙ unsigned_stops s b r h k
number_stops g s b r (inr e) h k = ap (λ x. number.is_number (x ++ (s ++ b ∷ r))) e ∙ int_stops s b r h k

-- what is behind the digits begins with no digit
record BeginsBehind (s : List ℕ) : Type 0 where
  first : ℕ
  rest : List ℕ
  parts : s ≡ first ∷ rest
  no_digit : is_digit first ≡ false

behind_digits : (f x : List ℕ) → IsFraction f → IsExponent x → (f ++ x ≡ [] → ⊥) → BeginsBehind (f ++ x)
behind_digits [] [] h k n = absurd (n refl)
behind_digits [] (b ∷ bs) h k n = record {
  first = b;
  rest = bs;
  parts = refl;
  no_digit = elim k.0 [ inl e ↦ ap is_digit e ∙ letter_isnt_digit.0 | inr e ↦ ap is_digit e ∙ letter_isnt_digit.1 ];
}
behind_digits (b ∷ ds) x h k n = record { first = b; rest = ds ++ x; parts = refl; no_digit = ap is_digit h.0 ∙ point_isnt_digit }

-- With a fraction or an exponent it has no value.
pub no_value : (s : List ℕ) (n : IsNumber s) → (n.fraction ++ n.exponent ≡ [] → ⊥) → key_number s ≡ None
no_value s n h =
    let b = behind_digits n.fraction n.exponent n.is_fraction n.is_exponent h in
    let parts : s ≡ n.sign ++ (n.int ++ b.first ∷ b.rest) = n.parts ∙ ap (λ x. n.sign ++ (n.int ++ x)) b.parts in
    if_false (number.is_number s) (whole_of s) None (ap number.is_number parts ∙ number_stops n.sign n.int b.first b.rest n.is_sign n.is_int b.no_digit)
