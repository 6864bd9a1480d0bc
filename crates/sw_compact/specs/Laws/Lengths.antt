-- A length is spelled in one way in each version, and read as what it is spelled from.
use Rattle.std.proofs.Common.{◌≡◌, ◌≤◌, ◌<◌, ◌^◌, ◌+◌, ◌-◌, ◌*◌, ◌/◌, ◌%◌, ◌++◌, ℕ, zero, suc, Bool, true, false, cond, List, [], ◌∷◌, length, get_or, refl, ap, ap₂, sym, subst, ◌∙◌, arith, nat_lt}
use Rattle.std.proofs.lemmas.Bool.Decides.{nat_tests}
use Rattle.std.proofs.lemmas.Nat.{be_bytes_8, from_be_bytes-to_be_bytes_8}
use Rattle.std.specs.Prelude.{Some, None, ◌&&◌, option_map, option_and_then}
use Rattle.std.specs.Int.{to_be_bytes, from_be_bytes, w64}
use Rattle.sw_tree.specs.Laws.Options.{some_is}
use Rattle.sw_compact.specs.Lengths.{groups, length_bytes}
use Rattle.sw_compact.specs.Head.{Front, is_byte, split, lengthened, groups_front, length_front}
use Rattle.sw_compact.specs.Laws.Numbers.{AreBytes, byte_of, first_byte, other_bytes, split_read, split_sound}
use Rattle.sw_compact.specs.declared.version.Version.{Version}
use Rattle.sw_compact.specs.declared.version.Version.TheVariants.{One, Two}

-- ---- eight bytes

eight_bytes : (n : ℕ) → n < 2 ^ 64 → AreBytes (to_be_bytes w64 n) × (length (to_be_bytes w64 n) ≡ 8)
eight_bytes n h =
    (rw (every (n / 72057594037927936), every (n / 281474976710656), every (n / 1099511627776), every (n / 4294967296), every (n / 16777216), every (n / 65536), every (n / 256), every n) refl, refl)
  where
    every : (q : ℕ) → is_byte (q % 256) ≡ true
    every q = byte_of (q % 256) (omega arith)

low_bytes : (s : List ℕ) → AreBytes s → (i : ℕ) → get_or s i 0 < 256
low_bytes [] h i = omega arith
low_bytes (b ∷ s) h zero = first_byte b s h
low_bytes (b ∷ s) h (suc i) = low_bytes s (other_bytes b s h) i

eight_bound : (s : List ℕ) → length s ≡ 8 → AreBytes s → from_be_bytes w64 s < 2 ^ 64
eight_bound s n h =
    omega (arith, low_bytes s h 0, low_bytes s h 1, low_bytes s h 2, low_bytes s h 3, low_bytes s h 4, low_bytes s h 5, low_bytes s h 6, low_bytes s h 7)

-- ---- groups of seven bits

power : (k : ℕ) → 128 ^ suc k ≡ 128 * 128 ^ k
power k = grind (arith, nat_tests)

groups_read : (m n : ℕ) (rest : List ℕ) → n < 2 ^ 64 → n < 128 ^ suc m → groups_front (suc m) (groups (suc m) n ++ rest) ≡ Some (n, rest)
groups_read zero n rest small low =
    let last : nat_lt n 128 ≡ true = grind (arith, nat_tests) in
    rw (last, last) refl
groups_read (suc m) n rest small low = by (nat_lt n 128) refl (groups_read m (n / 128) rest (omega (arith, small)) (omega (arith, low, power (suc m))))
  where
    by : (t : Bool) → nat_lt n 128 ≡ t → groups_front (suc m) (groups (suc m) (n / 128) ++ rest) ≡ Some (n / 128, rest) → groups_front (suc (suc m)) (groups (suc (suc m)) n ++ rest) ≡ Some (n, rest)
    by true e next = rw (e, e) refl
    by false e next =
        let more : nat_lt (128 + n % 128) 128 ≡ false = grind (arith, nat_tests) in
        let byte : nat_lt (128 + n % 128) 256 ≡ true = grind (arith, nat_tests) in
        let some : nat_lt 0 (n / 128) ≡ true = grind (arith, nat_tests) in
        let low : nat_lt (n / 128) (2 ^ 57) ≡ true = grind (arith, nat_tests) in
        let same : 128 + n % 128 - 128 + 128 * (n / 128) ≡ n = omega arith in
        rw e (rw (more, byte) (ap (option_and_then (lengthened (128 + n % 128))) next ∙ rw (some, low) (ap (λ x. Some (x, rest)) same)))

lengthened_sound : (m b : ℕ) (bs : List ℕ) (o : Front ℕ) (n : ℕ) (rest : List ℕ) → nat_lt b 128 ≡ false → nat_lt b 256 ≡ true → ((k : ℕ) (r : List ℕ) → o ≡ Some (k, r) → (bs ≡ groups m k ++ r) × (k < 2 ^ 64))
    → option_and_then (lengthened b) o ≡ Some (n, rest) → (b ∷ bs ≡ groups (suc m) n ++ rest) × (n < 2 ^ 64)
lengthened_sound m b bs None n rest high byte next e = cc
lengthened_sound m b bs (Some x) n rest high byte next e = by (nat_lt 0 x.0) (nat_lt x.0 (2 ^ 57)) refl refl e
  where
    by : (t u : Bool) → nat_lt 0 x.0 ≡ t → nat_lt x.0 (2 ^ 57) ≡ u → ◌≡◌ {A = Front ℕ} (cond (t && u) (Some (b - 128 + 128 * x.0, x.1)) None) (Some (n, rest)) → (b ∷ bs ≡ groups (suc m) n ++ rest) × (n < 2 ^ 64)
    by true true p q i =
        let value : b - 128 + 128 * x.0 ≡ n = ap (λ (y : ℕ × List ℕ). y.0) (some_is i) in
        let left : x.1 ≡ rest = ap (λ (y : ℕ × List ℕ). y.1) (some_is i) in
        let above : 128 ≤ b = grind (arith, nat_tests) in
        let below : b < 256 = grind (arith, nat_tests) in
        let some : 0 < x.0 = grind (arith, nat_tests) in
        let low : x.0 < 2 ^ 57 = grind (arith, nat_tests) in
        let more : nat_lt n 128 ≡ false = grind (arith, nat_tests, value, above, some) in
        let first : 128 + n % 128 ≡ b = omega (arith, value, above, below) in
        let higher : n / 128 ≡ x.0 = omega (arith, value, above, below) in
        let rec = next x.0 x.1 refl in
        (rw (more, first, higher, ← left) (ap (λ r. b ∷ r) rec.0), omega (arith, value, low, below))
    by true false p q i = cc
    by false u p q i = cc

groups_sound : (m : ℕ) (b : List ℕ) (n : ℕ) (rest : List ℕ) → groups_front m b ≡ Some (n, rest) → (b ≡ groups m n ++ rest) × (n < 2 ^ 64)
groups_sound zero b n rest e = cc
groups_sound (suc m) [] n rest e = cc
groups_sound (suc m) (b ∷ bs) n rest e = by (nat_lt b 128) (nat_lt b 256) refl refl (groups_sound m bs) e
  where
    by : (t u : Bool) → nat_lt b 128 ≡ t → nat_lt b 256 ≡ u → ((k : ℕ) (r : List ℕ) → groups_front m bs ≡ Some (k, r) → (bs ≡ groups m k ++ r) × (k < 2 ^ 64))
        → ◌≡◌ {A = Front ℕ} (cond t (Some (b, bs)) (cond u (option_and_then (lengthened b) (groups_front m bs)) None)) (Some (n, rest)) → (b ∷ bs ≡ groups (suc m) n ++ rest) × (n < 2 ^ 64)
    by true u p q next i =
        let value : b ≡ n = ap (λ (y : ℕ × List ℕ). y.0) (some_is i) in
        let left : bs ≡ rest = ap (λ (y : ℕ × List ℕ). y.1) (some_is i) in
        let small : b < 128 = grind (arith, nat_tests) in
        (rw (← value, p, left) refl, omega (arith, value, small))
    by false true p q next i = lengthened_sound m b bs (groups_front m bs) n rest p q next i
    by false false p q next i = cc

-- ---- both

pub length_read : (v : Version) (n : ℕ) (rest : List ℕ) → n < 2 ^ 64 → length_front v (length_bytes v n ++ rest) ≡ Some (n, rest)
length_read One n rest h =
    ap (option_map (λ (x : List ℕ × List ℕ). (from_be_bytes w64 x.0, x.1))) (split_read (to_be_bytes w64 n) rest (eight_bytes n h).0) ∙ ap (λ x. Some (x, rest)) (from_be_bytes-to_be_bytes_8 n h)
length_read Two n rest h = groups_read 9 n rest h (omega (arith, h))

pub length_sound : (v : Version) (b : List ℕ) (n : ℕ) (rest : List ℕ) → length_front v b ≡ Some (n, rest) → (b ≡ length_bytes v n ++ rest) × (n < 2 ^ 64)
length_sound One b n rest e = by (split 8 b) refl e
  where
    by : (o : Front (List ℕ)) → split 8 b ≡ o → ◌≡◌ {A = Front ℕ} (option_map (λ x. (from_be_bytes w64 x.0, x.1)) o) (Some (n, rest)) → (b ≡ to_be_bytes w64 n ++ rest) × (n < 2 ^ 64)
    by None f i = cc
    by (Some x) f i =
        let s = split_sound 8 b x.0 x.1 f in
        let value : from_be_bytes w64 x.0 ≡ n = ap (λ (y : ℕ × List ℕ). y.0) (some_is i) in
        let left : x.1 ≡ rest = ap (λ (y : ℕ × List ℕ). y.1) (some_is i) in
        (s.is ∙ ap₂ (λ (y z : List ℕ). y ++ z) (sym (be_bytes_8 x.0 n s.count (low_bytes x.0 s.bytes) (sym value))) left, subst (λ k. k < 2 ^ 64) value (eight_bound x.0 s.count s.bytes))
length_sound Two b n rest e = groups_sound 10 b n rest e

pub length_some : (v : Version) (n : ℕ) → 0 < length (length_bytes v n)
length_some One n = omega arith
length_some Two n = by (nat_lt n 128)
  where
    by : (t : Bool) → 0 < length (cond t (n ∷ []) ((128 + n % 128) ∷ groups 9 (n / 128)))
    by true = omega arith
    by false = omega arith
