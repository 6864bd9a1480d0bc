-- A number is spelled in one way, and read as what it is spelled from.
use Rattle.std.proofs.Common.{◌≡◌, ◌≤◌, ◌<◌, ◌^◌, ◌+◌, ◌-◌, ◌*◌, ◌/◌, ◌%◌, ◌++◌, append-nil, ℕ, zero, suc, Bool, true, false, cond, List, [], ◌∷◌, length, length-append, take, drop, take_at, drop_at, refl, subst, ap, ap₂, sym, ◌∙◌, arith, nat_le, nat_lt}
use Rattle.std.proofs.lemmas.Bool.Decides.{nat_tests}
use Rattle.std.proofs.lemmas.List.{take-append-drop, length-take}
use Rattle.std.proofs.Math.Nat.{pow-le-pow_right, mul_assoc, mul_left_comm}
use Rattle.std.specs.Prelude.{Some, None, ◌==◌, ◌&&◌, option_and_then}
use Rattle.std.specs.List.{list_all}
use Rattle.sw_tree.specs.Laws.Options.{some_is}
use Rattle.sw_compact.specs.Numbers.{digits, magnitude, counted}
use Rattle.sw_compact.specs.Head.{Front, is_byte, split, value_from, is_minimal, minimal, number_front}

-- ---- bytes, and parts of them

abbrev pub AreBytes : List ℕ → Type 0
AreBytes bs = list_all is_byte bs ≡ true

pub byte_of : (b : ℕ) → b < 256 → is_byte b ≡ true
byte_of b h = grind (arith, nat_tests)

pub below_byte : (b : ℕ) → is_byte b ≡ true → b < 256
below_byte b h = grind (arith, nat_tests)

pub first_byte : (b : ℕ) (bs : List ℕ) → AreBytes (b ∷ bs) → b < 256
first_byte b bs h = by (is_byte b) refl h
  where
    by : (t : Bool) → is_byte b ≡ t → (t && list_all is_byte bs) ≡ true → b < 256
    by true e i = below_byte b e
    by false e i = cc

pub other_bytes : (b : ℕ) (bs : List ℕ) → AreBytes (b ∷ bs) → AreBytes bs
other_bytes b bs h = by (is_byte b) h
  where
    by : (t : Bool) → (t && list_all is_byte bs) ≡ true → AreBytes bs
    by true i = i
    by false i = cc

pub are_bytes : (b : ℕ) (bs : List ℕ) → b < 256 → AreBytes bs → AreBytes (b ∷ bs)
are_bytes b bs h i = rw (byte_of b h) i

pub split_read : (s k : List ℕ) → AreBytes s → split (length s) (s ++ k) ≡ Some (s, k)
split_read s k h =
    let enough : nat_le (length s) (length (s ++ k)) ≡ true = grind (arith, nat_tests, length-append s k) in
    rw (enough, take_at s k (length s) refl, drop_at s k (length s) refl, h) refl

-- what is read in front, and what is behind it
pub record Splits (n : ℕ) (b s k : List ℕ) : Type 0 where
  pub is : b ≡ s ++ k
  pub count : length s ≡ n
  pub bytes : AreBytes s

pub split_sound : (n : ℕ) (b s k : List ℕ) → split n b ≡ Some (s, k) → Splits n b s k
split_sound n b s k e = by (nat_le n (length b)) (list_all is_byte (take n b)) refl refl e
  where
    by : (t u : Bool) → nat_le n (length b) ≡ t → list_all is_byte (take n b) ≡ u → ◌≡◌ {A = Front (List ℕ)} (cond (t && u) (Some (take n b, drop n b)) None) (Some (s, k)) → Splits n b s k
    by true true p q i =
        let same = some_is i in
        let enough : n ≤ length b = grind (arith, nat_tests) in
        let front : take n b ≡ s = ap (λ (x : List ℕ × List ℕ). x.0) same in
        let back : drop n b ≡ k = ap (λ (x : List ℕ × List ℕ). x.1) same in
        record {
          is = sym (take-append-drop n b) ∙ ap₂ (λ (x y : List ℕ). x ++ y) front back;
          count = ap length (sym front) ∙ length-take n b ∙ omega (arith, enough);
          bytes = ap (list_all is_byte) (sym front) ∙ q;
        }
    by true false p q i = cc
    by false u p q i = cc

-- ---- digits

pub digits_nothing : (m : ℕ) (rest : List ℕ) → digits m 0 rest ≡ rest
digits_nothing zero rest = refl
digits_nothing (suc m) rest = refl

power : (k : ℕ) → 256 ^ suc k ≡ 256 * 256 ^ k
power k = grind (arith, nat_tests)

module _ (m n : ℕ) (rest : List ℕ) where
  -- a number that isn't zero has a last digit
  digits_more : 0 < n → digits (suc m) n rest ≡ digits m (n / 256) (n % 256 ∷ rest)
  digits_more h =
      let some : (n == 0) ≡ false = grind (arith, nat_tests) in
      rw some refl

higher : (m n : ℕ) → n < 256 ^ suc m → n / 256 < 256 ^ m
higher m n h = omega (arith, h, power m)

pub value_digits : (m n : ℕ) (rest : List ℕ) → n < 256 ^ m → value_from 0 (digits m n rest) ≡ value_from n rest
value_digits zero n rest h = let none : 0 ≡ n = omega (arith, h) in ap (λ x. value_from x rest) none
value_digits (suc m) zero rest h = refl
value_digits (suc m) (suc n) rest h =
    ap (value_from 0) (digits_more m (suc n) rest (omega arith))
    ∙ value_digits m (suc n / 256) (suc n % 256 ∷ rest) (higher m (suc n) h)
    ∙ ap (λ x. value_from x rest) (omega arith)

pub digits_bytes : (m n : ℕ) (rest : List ℕ) → AreBytes rest → AreBytes (digits m n rest)
digits_bytes zero n rest h = h
digits_bytes (suc m) zero rest h = h
digits_bytes (suc m) (suc n) rest h = rw (digits_more m (suc n) rest (omega arith)) (digits_bytes m (suc n / 256) (suc n % 256 ∷ rest) (are_bytes (suc n % 256) rest (omega arith) h))

pub length-digits : (m n : ℕ) (rest : List ℕ) → length (digits m n rest) ≤ m + length rest
length-digits zero n rest = omega arith
length-digits (suc m) zero rest = omega arith
length-digits (suc m) (suc n) rest = rw (digits_more m (suc n) rest (omega arith)) (omega (arith, length-digits m (suc n / 256) (suc n % 256 ∷ rest)))

-- ---- the digits of a value

digits_left : (m n : ℕ) (bs rest : List ℕ) → 0 < n → AreBytes bs → digits (m + length bs) (value_from n bs) rest ≡ digits m n (bs ++ rest)
digits_left m n [] rest some h = ap (λ k. digits k n rest) (omega arith)
digits_left m n (b ∷ bs) rest some h =
    let low : b < 256 = first_byte b bs h in
    let high : (256 * n + b) / 256 ≡ n = omega (arith, low) in
    let last : (256 * n + b) % 256 ≡ b = omega (arith, low) in
    ap (λ k. digits k (value_from (256 * n + b) bs) rest) (omega arith)
    ∙ digits_left (suc m) (256 * n + b) bs rest (omega (arith, some)) (other_bytes b bs h)
    ∙ digits_more m (256 * n + b) (bs ++ rest) (omega (arith, some))
    ∙ ap₂ (λ (x y : ℕ). digits m x (y ∷ bs ++ rest)) high last

pub magnitude_value : (bs : List ℕ) → AreBytes bs → is_minimal bs ≡ true → length bs ≤ 16 → magnitude (value_from 0 bs) ≡ bs
magnitude_value [] h least few = refl
magnitude_value (b ∷ bs) h least few =
    let some : 0 < b = grind (arith, nat_tests) in
    let low : b < 256 = first_byte b bs h in
    let m : ℕ = 15 - length bs in
    let none : b / 256 ≡ 0 = omega (arith, low) in
    let last : b % 256 ≡ b = omega (arith, low) in
    let count : 16 ≡ suc m + length bs = omega (arith, few) in
    let begins : 256 * 0 + b ≡ b = omega arith in
    ap₂ (λ (k n : ℕ). digits k (value_from n bs) []) count begins
    ∙ digits_left (suc m) b bs [] some (other_bytes b bs h)
    ∙ digits_more m b (bs ++ []) some
    ∙ ap₂ (λ (x y : ℕ). digits m x (y ∷ bs ++ [])) none last
    ∙ digits_nothing m (b ∷ bs ++ [])
    ∙ ap (λ cs. b ∷ cs) (append-nil bs)

grows : (bs : List ℕ) (n k : ℕ) → AreBytes bs → n < k → value_from n bs < k * 256 ^ length bs
grows [] n k h less = omega (arith, less)
grows (b ∷ bs) n k h less =
    let low : b < 256 = first_byte b bs h in
    let same : (256 * k) * 256 ^ length bs ≡ k * 256 ^ suc (length bs) = mul_assoc 256 k (256 ^ length bs) ∙ mul_left_comm 256 k (256 ^ length bs) ∙ ap (λ x. k * x) (sym (power (length bs))) in
    let next : value_from (256 * n + b) bs < (256 * k) * 256 ^ length bs = grows bs (256 * n + b) (256 * k) (other_bytes b bs h) (omega (arith, low, less)) in
    omega (arith, next, same)

pub value_bound : (bs : List ℕ) → AreBytes bs → length bs ≤ 16 → value_from 0 bs < 2 ^ 128
value_bound bs h few =
    let most : 256 ^ length bs ≤ 256 ^ 16 = pow-le-pow_right {n = 256} (omega arith) few in
    omega (arith, grows bs 0 1 h (omega arith), most)

-- ---- what is read in front

-- the digits of a number begin with one that isn't zero
leads : (m n : ℕ) (rest : List ℕ) → 0 < n → n < 256 ^ m → is_minimal (digits m n rest) ≡ true
leads zero n rest some h = absurd (omega (arith, some, h))
leads (suc m) n rest some h = rw (digits_more m n rest some) (leads_by m (n / 256) (n % 256) rest (leads m (n / 256) (n % 256 ∷ rest)) (omega (arith, some)) (higher m n h))
  where
    leads_by : (j q r : ℕ) (bs : List ℕ) → (0 < q → q < 256 ^ j → is_minimal (digits j q (r ∷ bs)) ≡ true) → 0 < 256 * q + r → q < 256 ^ j → is_minimal (digits j q (r ∷ bs)) ≡ true
    leads_by j zero r bs next more low =
        let this : nat_lt 0 r ≡ true = grind (arith, nat_tests) in
        rw (digits_nothing j (r ∷ bs)) this
    leads_by j (suc q) r bs next more low = next (omega arith) low

magnitude_minimal : (n : ℕ) → n < 256 ^ 16 → is_minimal (magnitude n) ≡ true
magnitude_minimal zero h = refl
magnitude_minimal (suc n) h = leads 16 (suc n) [] (omega arith) h

pub number_read : (n : ℕ) (rest : List ℕ) → n < 2 ^ 128 → number_front (counted n ++ rest) ≡ Some (n, rest)
number_read n rest h =
    let small : n < 256 ^ 16 = omega (arith, h) in
    let few : nat_le (length (magnitude n)) 16 ≡ true = grind (arith, nat_tests, length-digits 16 n []) in
    let bytes : AreBytes (magnitude n) = digits_bytes 16 n [] refl in
    rw (few, split_read (magnitude n) rest bytes, magnitude_minimal n small) (ap (λ x. Some (x, rest)) (value_digits 16 n [] small))

pub number_sound : (b : List ℕ) (n : ℕ) (rest : List ℕ) → number_front b ≡ Some (n, rest) → (b ≡ counted n ++ rest) × (n < 2 ^ 128)
number_sound [] n rest e = cc
number_sound (k ∷ b) n rest e = by (nat_le k 16) refl e
  where
    of : (x : List ℕ × List ℕ) (t : Bool) → split k b ≡ Some x → nat_le k 16 ≡ true → is_minimal x.0 ≡ t → ◌≡◌ {A = Front ℕ} (cond t (Some (value_from 0 x.0, x.1)) None) (Some (n, rest)) → (k ∷ b ≡ counted n ++ rest) × (n < 2 ^ 128)
    of x false f few least i = cc
    of x true f few least i =
        let s = split_sound k b x.0 x.1 f in
        let short : length x.0 ≤ 16 = grind (arith, nat_tests, s.count) in
        let value : value_from 0 x.0 ≡ n = ap (λ (y : ℕ × List ℕ). y.0) (some_is i) in
        let left : x.1 ≡ rest = ap (λ (y : ℕ × List ℕ). y.1) (some_is i) in
        let digits : magnitude n ≡ x.0 = ap magnitude (sym value) ∙ magnitude_value x.0 s.bytes least short in
        (ap₂ (λ (c : ℕ) (r : List ℕ). c ∷ r) (sym s.count) s.is ∙ ap₂ (λ (m r : List ℕ). (length m ∷ m) ++ r) (sym digits) left, subst (λ m. m < 2 ^ 128) value (value_bound x.0 s.bytes short))

    next : (o : Front (List ℕ)) → split k b ≡ o → nat_le k 16 ≡ true → option_and_then minimal o ≡ Some (n, rest) → (k ∷ b ≡ counted n ++ rest) × (n < 2 ^ 128)
    next None f few i = cc
    next (Some x) f few i = of x (is_minimal x.0) f few refl i

    by : (t : Bool) → nat_le k 16 ≡ t → ◌≡◌ {A = Front ℕ} (cond t (option_and_then minimal (split k b)) None) (Some (n, rest)) → (k ∷ b ≡ counted n ++ rest) × (n < 2 ^ 128)
    by true few i = next (split k b) refl few i
    by false few i = cc
