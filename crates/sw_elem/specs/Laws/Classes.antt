-- The bytes of those classes.
use Rattle.std.specs.Prelude.{◌≡◌, ℕ, ◌<◌, ◌==◌, true, Bool, false, ◌&&◌, ◌+◌, ◌^◌, ◌≤◌, ◌%◌, List, [], ◌∷◌, ◌++◌, zero, suc, ℤ, pos, negsuc, ◌-◌, cond, nat_lt}
use Rattle.std.specs.Int.{bit_at}
use Rattle.std.specs.List.{list_all}
use Rattle.std.specs.Char.{encode_utf8}
use Rattle.std.specs.Int.Signed.{mag}
use Rattle.std.specs.Fmt.{decimal, signed_decimal}
use Rattle.std.proofs.Common.{refl, ◌∙◌, arith, length-append, subst, inl, inr, ap}
use Rattle.std.proofs.lemmas.Bool.{and_parts, ltb-true}
use Rattle.std.proofs.lemmas.Bool.Decides.{Decides-ltb, leb_tells}
use Rattle.std.proofs.lemmas.List.Folds.{list_all-append}
use Rattle.std.proofs.lemmas.Str.{length-encode}
use Rattle.std.proofs.lemmas.Fmt.{decimal_by_steps_wide}
use Rattle.std.proofs.lemmas.Nat.Bits.{bit_at_ones}
use Rattle.sw_tree.specs.Image.{bool_text}
use Rattle.sw_check.specs.TextClass.{admits, IsOfClass}
use Rattle.sw_check.specs.declared.class.TextClass.{TextClass}
use Rattle.sw_elem.specs.Classes.{digit_class, signed_class, truth_class, byte_class}

-- a byte below 128 by its bit
admitted : (c : TextClass) (b : ℕ) → b < 128 → (bit_at c.ascii b == 1) ≡ true → admits c b ≡ true
admitted c b h s = rw ((Decides-ltb b 128).1 h) s

joined : (a b : Bool) → a ≡ true → b ≡ true → (a && b) ≡ true
joined true b h k = k
joined false b h k = absurd (cc)

-- ---- decimal texts
module _ (c : TextClass) (has : (k : ℕ) → k < 10 → admits c (48 + k) ≡ true) where
  one_digit : (n : ℕ) → n < 10 → IsOfClass c ((48 + n) ∷ [])
  one_digit n h = record { filled = λ k. omega arith; bytes = joined (admits c (48 + n)) true (has n h) refl }

  more_digits : (n : ℕ) (ds : List ℕ) → 10 ≤ n → IsOfClass c ds → IsOfClass c (ds ++ (48 + n % 10) ∷ [])
  more_digits n ds h k = record {
    filled = λ f. omega (arith, length-append ds ((48 + n % 10) ∷ []));
    bytes = list_all-append (admits c) ds ((48 + n % 10) ∷ [])
        ∙ joined (list_all (admits c) ds) (admits c (48 + n % 10) && true) k.bytes (joined (admits c (48 + n % 10)) true (has (n % 10) (omega arith)) refl);
  }

  decimal_classed : (n : ℕ) → n < 10 ^ 64 → IsOfClass c (decimal n)
  decimal_classed = decimal_by_steps_wide (λ n ds. IsOfClass c ds) one_digit more_digits

-- so many bits from that one on
abbrev has_bits : ℕ → ℕ → ℕ → Bool
has_bits n low zero = true
has_bits n low (suc i) = (bit_at n (low + i) == 1) && has_bits n low i

bit_among : (n low count k : ℕ) → has_bits n low count ≡ true → k < count → (bit_at n (low + k) == 1) ≡ true
bit_among n low zero k h l = absurd (omega arith)
bit_among n low (suc i) k h l =
    let q = and_parts (bit_at n (low + i) == 1) (has_bits n low i) h in
    elim (leb_tells i k) [
      | inl y ↦ let e : i ≡ k = omega (arith, y.1) in subst (λ (j : ℕ). (bit_at n (low + j) == 1) ≡ true) e q.0
      | inr less ↦ bit_among n low i k q.1 less.1
    ]

has_digits : (c : TextClass) → has_bits c.ascii 48 10 ≡ true → (k : ℕ) → k < 10 → admits c (48 + k) ≡ true
has_digits c h k l = admitted c (48 + k) (omega arith) (bit_among c.ascii 48 10 k h l)

pub digits_classed : (n : ℕ) → n < 10 ^ 64 → IsOfClass digit_class (decimal n)
digits_classed = decimal_classed digit_class (has_digits digit_class refl)

pub signed_classed : (z : ℤ) → mag z < 2 ^ 127 → IsOfClass signed_class (signed_decimal z)
signed_classed (pos n) h = let small : n < 2 ^ 127 = h in decimal_classed signed_class (has_digits signed_class refl) n (omega arith)
signed_classed (negsuc n) h =
    let small : n < 2 ^ 127 = h in
    let k = decimal_classed signed_class (has_digits signed_class refl) (suc n) (omega arith) in
    record { filled = λ f. omega arith; bytes = joined (admits signed_class 45) (list_all (admits signed_class) (decimal (suc n))) refl k.bytes }

-- ---- truth values
pub truth_classed : (b : Bool) → IsOfClass truth_class (bool_text b)
truth_classed true = record { filled = λ f. omega arith; bytes = refl }
truth_classed false = record { filled = λ f. omega arith; bytes = refl }

-- ---- texts
every_bit : (b : ℕ) → b < 128 → (bit_at (2 ^ 128 - 1) b == 1) ≡ true
every_bit b h = let one : bit_at (2 ^ 128 - 1) b ≡ 1 = bit_at_ones 128 b h in ap (λ (x : ℕ). x == 1) one

chosen : (low x : Bool) → (low ≡ true → x ≡ true) → cond low x true ≡ true
chosen true x h = h refl
chosen false x h = refl

one_byte : (filled : Bool) (b : ℕ) → admits (byte_class filled) b ≡ true
one_byte filled b = chosen (nat_lt b 128) (bit_at (2 ^ 128 - 1) b == 1) (λ h. every_bit b (ltb-true b 128 h))

pub every_byte : (filled : Bool) (s : List ℕ) → list_all (admits (byte_class filled)) s ≡ true
every_byte filled [] = refl
every_byte filled (b ∷ bs) = joined (admits (byte_class filled) b) (list_all (admits (byte_class filled)) bs) (one_byte filled b) (every_byte filled bs)

some_byte : (x y z : Bool) → 0 < cond x 1 (cond y 2 (cond z 3 4))
some_byte true y z = omega arith
some_byte false true z = omega arith
some_byte false false true = omega arith
some_byte false false false = omega arith

pub character_classed : (c : ℕ) → IsOfClass (byte_class true) (encode_utf8 c)
character_classed c = record {
  filled = λ f. rw (length-encode c) (some_byte (nat_lt c 128) (nat_lt c 2048) (nat_lt c 65536));
  bytes = every_byte true (encode_utf8 c);
}

pub text_classed : (s : List ℕ) → IsOfClass (byte_class false) s
text_classed s = record { filled = λ f. absurd (cc); bytes = every_byte false s }
