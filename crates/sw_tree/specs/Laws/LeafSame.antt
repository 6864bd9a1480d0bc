-- Leaves of one meaning are equal and hash alike: the value, or the bytes of a text, can be got back from the meaning.
use Rattle.std.specs.Prelude.{◌≡◌, Bool, ℕ, pos, ◌==◌, ℤ, String, string_bytes, List}
use Rattle.std.specs.Bool.{Decides}
use Rattle.std.specs.Ordering.{int_eq}
use Rattle.std.specs.Hash.{HashWrites}
use Rattle.std.specs.Cmp.Lexicographic.{bytes_decides}
use Rattle.std.specs.String.{string_eq}
use Rattle.std.specs.declared.alloc.Global.{Global}
use Rattle.std.proofs.Common.{ap, sym, ◌∙◌, refl}
use Rattle.std.proofs.lemmas.Bool.Decides.{Decides-eqb, Decides-int_eq}
use Rattle.sw_tree.specs.Meaning.{Meaning, truth, number, text}
use Rattle.sw_tree.specs.Meant.{IsTruth, unsigned_meaning, char_meaning, IsCharText, text_meaning, IsText}
use Rattle.sw_tree.specs.LeafRanks.{truth_of, number_of, text_of}
use Rattle.sw_tree.specs.CharRanks.{decoded}
use Rattle.sw_tree.specs.SameMeaning.{TellsSame, HashesAlike}
use Rattle.sw_tree.specs.Laws.CharRanks.{decoded-encode}

-- the meaning is told from what stands for a value, and gives that back
module _ {T K : Type 0} (P : Meaning → Type 0) (tell : K → Meaning) (back : Meaning → K) (undone : (k : K) → back (tell k) ≡ k) (at : T → K) where
  same_at : (x y : T) → tell (at x) ≡ tell (at y) → at x ≡ at y
  same_at x y e = sym (undone (at x)) ∙ ap back e ∙ undone (at y)

  leaves_same : (eq : K → K → Bool) → ((k l : K) → Decides (eq k l) (k ≡ l)) → TellsSame P (λ x. tell (at x)) (λ x y. eq (at x) (at y))
  leaves_same eq tells x y h k = (λ e. ap tell ((tells (at x) (at y)).0 e), λ e. (tells (at x) (at y)).1 (same_at x y e))

  leaves_alike : (F : K → HashWrites) → HashesAlike P (λ x. tell (at x)) (λ x. F (at x))
  leaves_alike F x y h e = ap F (same_at x y e)

pub truths_same : (eq : Bool → Bool → Bool) → ((a b : Bool) → Decides (eq a b) (a ≡ b)) → TellsSame IsTruth truth eq
truths_same = leaves_same IsTruth truth truth_of (λ b. refl) (λ b. b)

pub truths_alike : (F : Bool → HashWrites) → HashesAlike IsTruth truth F
truths_alike = leaves_alike IsTruth truth truth_of (λ b. refl) (λ b. b)

abbrev natural_of : Meaning → ℕ
natural_of (number (pos n)) = n
natural_of _ = 0

pub unsigned_same : (P : Meaning → Type 0) → TellsSame P unsigned_meaning (λ m n. m == n)
unsigned_same P = leaves_same P unsigned_meaning natural_of (λ n. refl) (λ n. n) _ Decides-eqb

pub unsigned_alike : (P : Meaning → Type 0) (F : ℕ → HashWrites) → HashesAlike P unsigned_meaning F
unsigned_alike P = leaves_alike P unsigned_meaning natural_of (λ n. refl) (λ n. n)

pub numbers_same : (P : Meaning → Type 0) → TellsSame P number int_eq
numbers_same P = leaves_same P number number_of (λ z. refl) (λ z. z) int_eq Decides-int_eq

pub numbers_alike : (P : Meaning → Type 0) (F : ℤ → HashWrites) → HashesAlike P number F
numbers_alike P = leaves_alike P number number_of (λ z. refl) (λ z. z)

abbrev char_of : Meaning → ℕ
char_of m = decoded (text_of m)

pub chars_same : TellsSame IsCharText char_meaning (λ c d. c == d)
chars_same = leaves_same IsCharText char_meaning char_of decoded-encode (λ c. c) _ Decides-eqb

pub chars_alike : (F : ℕ → HashWrites) → HashesAlike IsCharText char_meaning F
chars_alike = leaves_alike IsCharText char_meaning char_of decoded-encode (λ c. c)

pub texts_same : TellsSame IsText text_meaning string_eq
texts_same = leaves_same IsText text text_of (λ s. refl) (λ (s : String Global). string_bytes s) _ bytes_decides

pub texts_alike : (F : List ℕ → HashWrites) → HashesAlike IsText text_meaning (λ s. F (string_bytes s))
texts_alike = leaves_alike IsText text text_of (λ s. refl) (λ (s : String Global). string_bytes s)
