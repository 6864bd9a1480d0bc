-- The class of a text's bytes admits exactly the bytes of the text.
use Rattle.std.specs.Prelude.{◌≡◌, ℕ, ◌^◌, ◌<◌, nat_lt, nat_le, Bool, true, false, ◌||◌, ◌==◌, List, [], ◌∷◌, length, fold, bit_or, cond}
use Rattle.std.proofs.Common.{refl, ap, sym, subst, ◌∙◌, arith, inl, inr}
use Rattle.std.specs.Int.{bit_at}
use Rattle.std.specs.List.{list_any}
use Rattle.std.proofs.lemmas.Bool.{cases_eq, cases_lt, eq-eqb, ne_eqb, lt-ltb, le-ltb, le-leb, lt-leb}
use Rattle.std.proofs.lemmas.Nat.Bits.{bit_at_or, bit_at-pow_same, bit_at-pow_other, bit_at-zero, bit_at-lt}
use Rattle.sw_check.specs.declared.class.TextClass.{TextClass}
use Rattle.sw_check.specs.TextClass.{admits, with_byte, class_of}

or-true : (b : Bool) → (b || true) ≡ true
or-true true = refl
or-true false = refl

or-false : (b : Bool) → (b || false) ≡ b
or-false true = refl
or-false false = refl

or_assoc : (a b c : Bool) → ((a || b) || c) ≡ (a || (b || c))
or_assoc true b c = refl
or_assoc false b c = refl

bit_set : (a x b : ℕ) → (bit_at (bit_or a (2 ^ x)) b == 1) ≡ ((bit_at a b == 1) || (x == b))
bit_set a x b =
    elim (cases_eq b x) [
      | inl e ↦
          let one : bit_at (2 ^ x) b ≡ 1 = subst (λ z. bit_at (2 ^ x) z ≡ 1) (sym e) (bit_at-pow_same x) in
          let set : bit_at (bit_or a (2 ^ x)) b ≡ 1 = omega (arith, bit_at_or a (2 ^ x) b, one, bit_at-lt a b) in
          eq-eqb (bit_at (bit_or a (2 ^ x)) b) 1 set ∙ sym (ap (λ v. (bit_at a b == 1) || v) (eq-eqb x b (sym e)) ∙ or-true (bit_at a b == 1))
      | inr d ↦
          let kept : bit_at (bit_or a (2 ^ x)) b ≡ bit_at a b = omega (arith, bit_at_or a (2 ^ x) b, bit_at-pow_other x b d) in
          ap (λ n. n == 1) kept ∙ sym (ap (λ v. (bit_at a b == 1) || v) (ne_eqb x b (λ e. d (sym e))) ∙ or-false (bit_at a b == 1))
    ]

bit_added : (c : TextClass) (x b : ℕ) → b < 128 → (bit_at (with_byte c x).ascii b == 1) ≡ ((bit_at c.ascii b == 1) || (x == b))
bit_added c x b h =
    elim (cases_lt x 128) [
      | inl low ↦
          ap (λ v. bit_at (cond v (record c { ascii = bit_or c.ascii (2 ^ x) }) (record c { other = true })).ascii b == 1) (lt-ltb x 128 low) ∙ bit_set c.ascii x b
      | inr high ↦
          let apart : x ≡ b → ⊥ = λ e. omega (arith, e) in
          ap (λ v. bit_at (cond v (record c { ascii = bit_or c.ascii (2 ^ x) }) (record c { other = true })).ascii b == 1) (le-ltb x 128 high) ∙ sym (ap (λ v. (bit_at c.ascii b == 1) || v) (ne_eqb x b apart) ∙ or-false (bit_at c.ascii b == 1))
    ]

bits : (c : TextClass) (text : List ℕ) (b : ℕ) → b < 128 → (bit_at (fold with_byte c text).ascii b == 1) ≡ ((bit_at c.ascii b == 1) || list_any (λ x. x == b) text)
bits c [] b h = sym (or-false (bit_at c.ascii b == 1))
bits c (x ∷ text) b h =
    bits (with_byte c x) text b h ∙ ap (λ v. v || list_any (λ y. y == b) text) (bit_added c x b h)
    ∙ or_assoc (bit_at c.ascii b == 1) (x == b) (list_any (λ y. y == b) text)

other_added : (c : TextClass) (x : ℕ) → (with_byte c x).other ≡ (c.other || nat_le 128 x)
other_added c x =
    elim (cases_lt x 128) [
      | inl low ↦
          ap (λ v. (cond v (record c { ascii = bit_or c.ascii (2 ^ x) }) (record c { other = true })).other) (lt-ltb x 128 low) ∙ sym (ap (λ v. c.other || v) (lt-leb 128 x low) ∙ or-false c.other)
      | inr high ↦
          ap (λ v. (cond v (record c { ascii = bit_or c.ascii (2 ^ x) }) (record c { other = true })).other) (le-ltb x 128 high) ∙ sym (ap (λ v. c.other || v) (le-leb 128 x high) ∙ or-true c.other)
    ]

others : (c : TextClass) (text : List ℕ) → (fold with_byte c text).other ≡ (c.other || list_any (λ x. nat_le 128 x) text)
others c [] = sym (or-false c.other)
others c (x ∷ text) =
    others (with_byte c x) text ∙ ap (λ v. v || list_any (λ y. nat_le 128 y) text) (other_added c x)
    ∙ or_assoc c.other (nat_le 128 x) (list_any (λ y. nat_le 128 y) text)

filled_kept : (v : Bool) (c : TextClass) (a : ℕ) → (cond v (record c { ascii = a }) (record c { other = true })).never_empty ≡ c.never_empty
filled_kept true c a = refl
filled_kept false c a = refl

fills : (c : TextClass) (text : List ℕ) → (fold with_byte c text).never_empty ≡ c.never_empty
fills c [] = refl
fills c (x ∷ text) = fills (with_byte c x) text ∙ filled_kept (nat_lt x 128) c (bit_or c.ascii (2 ^ x))

abbrev start : List ℕ → TextClass
start text = record { never_empty = nat_lt 0 (length text); ascii = 0; other = false }

-- a byte below 128 may occur exactly where it stands in the text
pub admits-class_of : (text : List ℕ) (b : ℕ) → b < 128 → admits (class_of text) b ≡ list_any (λ x. x == b) text
admits-class_of text b h =
    ap (λ v. cond v (bit_at (class_of text).ascii b == 1) (class_of text).other) (lt-ltb b 128 h) ∙ bits (start text) text b h
    ∙ ap (λ n. (n == 1) || list_any (λ x. x == b) text) (bit_at-zero b)

-- bytes from 128 on may occur exactly where one stands in the text
pub other-class_of : (text : List ℕ) → (class_of text).other ≡ list_any (λ x. nat_le 128 x) text
other-class_of text = others (start text) text

-- and it is never empty exactly where the text isn't
pub never_empty-class_of : (text : List ℕ) → (class_of text).never_empty ≡ nat_lt 0 (length text)
never_empty-class_of text = fills (start text) text
