-- The bytes that are read in front, and the number of such bytes.
use Rattle.std.proofs.Common.{◌≡◌, ◌≤◌, ◌<◌, ◌^◌, ◌*◌, ◌+◌, ℕ, zero, suc, Bool, true, false, List, [], ◌∷◌, length, get_or, take, drop, Fits, w8, refl, arith, nat_le, nat_lt, ap, ap₂, ◌∙◌}
use Rattle.std.proofs.Math.Nat.{pow-le-pow_right}
use Rattle.std.proofs.lemmas.Bool.Decides.{nat_tests}
use Rattle.std.proofs.lemmas.Str.{is_utf8-from_IsUtf8, IsUtf8-from_is_utf8}
use Rattle.std.specs.Prelude.{Some, None}
use Rattle.std.specs.Str.{IsUtf8, is_utf8}
use Rattle.std.specs.List.{list_all, IsSplitAt}
use Rattle.sw_tree.specs.Tree.{text}
use Rattle.std.specs.Int.{from_be_bytes, w64}
use Rattle.sw_compact.specs.Head.{leaf, is_byte, split, textual, length_front}
use Rattle.sw_compact.specs.declared.version.Version.TheVariants.{One}

pub bytes_taken : (n : ℕ) (s : List ℕ) → ((i : ℕ) → Fits w8 (get_or s i 0)) → list_all is_byte (take n s) ≡ true
bytes_taken zero s h = refl
bytes_taken (suc n) [] h = refl
bytes_taken (suc n) (b ∷ s) h =
    let here : b < 256 = omega (arith, h 0) in
    let is : nat_lt b 256 ≡ true = grind (arith, nat_tests) in
    rw is (bytes_taken n s (λ i. h (suc i)))

-- so many bytes of those that the code has
pub split_some : (n : ℕ) (s a b : List ℕ) → ((i : ℕ) → Fits w8 (get_or s i 0)) → IsSplitAt s n a b → Some (a, b) ≡ split n s
split_some n s a b h is =
    let enough : nat_le n (length s) ≡ true = grind (arith, nat_tests, is.0) in
    rw (enough, bytes_taken n s h) (ap₂ (λ (x y : List ℕ). Some (x, y)) is.1 is.2)

pub split_none : (n : ℕ) (s : List ℕ) → length s < n → None ≡ split n s
split_none n s few =
    let short : nat_le n (length s) ≡ false = grind (arith, nat_tests) in
    rw short refl

pub textual_some : (s u k : List ℕ) → u ≡ s → IsUtf8 s → Some (leaf (text u), k) ≡ textual (s, k)
textual_some s u k e h = rw (is_utf8-from_IsUtf8 s h, e) refl

no_utf8 : (b : Bool) (s : List ℕ) → is_utf8 s ≡ b → ¬ (IsUtf8 s) → is_utf8 s ≡ false
no_utf8 true s e h = absurd (h (IsUtf8-from_is_utf8 s e))
no_utf8 false s e h = e

pub textual_none : (s k : List ℕ) → ¬ (IsUtf8 s) → None ≡ textual (s, k)
textual_none s k h = rw (no_utf8 (is_utf8 s) s refl h) refl

power : (k : ℕ) → 256 ^ suc k ≡ 256 * 256 ^ k
power k = grind (arith, nat_tests)

-- with a further digit
pub grown : (i value d : ℕ) → value < 256 ^ i → d < 256 → 256 * value + d < 256 ^ suc i
grown i value d low b = rw (power i) (omega (arith, low, b))

-- sixteen digits fit
pub fit : (i value : ℕ) → value < 256 ^ i → i ≤ 16 → value < 2 ^ 128
fit i value low few =
    let most : 256 ^ i ≤ 256 ^ 16 = pow-le-pow_right {n = 256} (omega arith) few in
    omega (arith, low, most)

pub eight_some : (s a b : List ℕ) (n : ℕ) → ((i : ℕ) → Fits w8 (get_or s i 0)) → (a ≡ take 8 s) × (b ≡ drop 8 s) × (length b + 8 ≡ length s) → n ≡ from_be_bytes w64 a → Some (n, b) ≡ length_front One s
eight_some s a b n h is e =
    let enough : nat_le 8 (length s) ≡ true = grind (arith, nat_tests, is.2) in
    rw (enough, bytes_taken 8 s h) (ap₂ (λ (x : ℕ) (y : List ℕ). Some (x, y)) (e ∙ ap (from_be_bytes w64) is.0) is.1)
