-- The bytes of a number, one at a time from the last.
use Rattle.std.proofs.Common.{◌≡◌, ◌≢◌, ◌≤◌, ◌<◌, ◌^◌, ◌*◌, ◌/◌, ◌%◌, ◌-◌, ◌+◌, ℕ, List, ◌∷◌, zero, suc, refl, ap, sym, ◌∙◌, arith, take, drop, set, length, length-set, length-drop}
use Rattle.std.proofs.lemmas.List.{drop-set, drop_all, take_all}
use Rattle.std.proofs.lemmas.Bool.{ne_eqb}
use Rattle.sw_compact.specs.Numbers.{digits, magnitude, counted}

digits-none : (m : ℕ) (rest : List ℕ) → digits m 0 rest ≡ rest
digits-none zero rest = refl
digits-none (suc m) rest = refl

digits-more : (m n : ℕ) (rest : List ℕ) → 0 < m → n ≢ 0 → digits m n rest ≡ digits (m - 1) (n / 256) (n % 256 ∷ rest)
digits-more zero n rest some h = absurd (omega arith)
digits-more (suc m) n rest some h =
    let e : suc m - 1 ≡ m = omega arith in
    rw (ne_eqb n 0 h, e) refl

room_left : (m n : ℕ) → n < 256 ^ m → n ≢ 0 → 0 < m
room_left zero n h k = absurd (k (omega arith))
room_left (suc m) n h k = omega arith

quotient_below : (m n : ℕ) → n < 256 ^ m → 0 < m → n / 256 < 256 ^ (m - 1)
quotient_below zero n h k = absurd (omega arith)
quotient_below (suc m) n h k =
    let e : suc m - 1 ≡ m = omega arith in
    let p : 256 ^ suc m ≡ 256 * 256 ^ m = grind arith in
    rw e (omega (arith, p))

-- The last bytes of the number stand from that place on, and this number is left.
pub record IsStacked (whole at rest : ℕ) (b : List ℕ) : Type 0 where
  pub low : 2 ≤ at
  pub high : at ≤ 18
  pub room : rest < 256 ^ (at - 2)
  pub so_far : magnitude whole ≡ digits (at - 2) rest (drop at b)
  pub len : length b ≡ 18

pub stacked-none : (whole : ℕ) (b : List ℕ) → length b ≡ 18 → whole < 2 ^ 128 → IsStacked whole 18 whole b
stacked-none whole b l h = record { low = omega arith; high = omega arith; room = h; so_far = ap (digits 16 whole) (sym (drop_all 18 b (omega (arith, l)))); len = l }

pub place_left : (whole at rest : ℕ) (b : List ℕ) → IsStacked whole at rest b → rest ≢ 0 → 3 ≤ at
place_left whole at rest b h some = omega (arith, h.low, room_left (at - 2) rest h.room some)

pub stacked-more : (whole at rest : ℕ) (b : List ℕ) → IsStacked whole at rest b → rest ≢ 0 → IsStacked whole (at - 1) (rest / 256) (set b (at - 1) (rest % 256))
stacked-more whole at rest b h some =
    let p : 0 < at - 2 = room_left (at - 2) rest h.room some in
    let e : at - 1 - 2 ≡ at - 2 - 1 = omega arith in
    let f : at - 1 + 1 ≡ at = omega arith in
    let within : at - 1 < length b = omega (arith, h.len, h.high) in
    let d : drop (at - 1) (set b (at - 1) (rest % 256)) ≡ rest % 256 ∷ drop at b = drop-set b (at - 1) (rest % 256) within ∙ ap (λ x. rest % 256 ∷ drop x b) f in
    record {
      low = omega arith;
      high = omega (arith, h.high);
      room = rw e (quotient_below (at - 2) rest h.room p);
      so_far = h.so_far ∙ digits-more (at - 2) rest (drop at b) p some ∙ ap (digits (at - 2 - 1) (rest / 256)) (sym d) ∙ ap (λ x. digits x (rest / 256) (drop (at - 1) (set b (at - 1) (rest % 256)))) (sym e);
      len = length-set b (at - 1) (rest % 256) ∙ h.len;
    }

-- the tag and the count in front of the bytes
headed_from : (whole at rest tag : ℕ) (b : List ℕ) → IsStacked whole at rest b → rest ≡ 0 → drop (at - 2) (set (set b (at - 1) (18 - at)) (at - 2) tag) ≡ tag ∷ counted whole
headed_from whole at rest tag b h none =
    let all : magnitude whole ≡ drop at b = h.so_far ∙ ap (λ x. digits (at - 2) x (drop at b)) none ∙ digits-none (at - 2) (drop at b) in
    let c = set b (at - 1) (18 - at) in
    let e : at - 2 + 1 ≡ at - 1 = omega (arith, h.low) in
    let f : at - 1 + 1 ≡ at = omega (arith, h.low) in
    let first : at - 1 < length b = omega (arith, h.len, h.high, h.low) in
    let second : at - 2 < length c = omega (arith, h.len, h.high, h.low, length-set b (at - 1) (18 - at)) in
    let count : length (magnitude whole) ≡ 18 - at = ap length all ∙ length-drop at b ∙ ap (λ x. x - at) h.len in
    drop-set c (at - 2) tag second
    ∙ ap (λ x. tag ∷ drop x c) e
    ∙ ap (λ x. tag ∷ x) (drop-set b (at - 1) (18 - at) first)
    ∙ ap (λ x. tag ∷ (18 - at) ∷ drop x b) f
    ∙ ap (λ x. tag ∷ x ∷ drop at b) (sym count)
    ∙ ap (λ x. tag ∷ length (magnitude whole) ∷ x) (sym all)

-- these are all the bytes from there on
pub headed : (whole at rest tag : ℕ) (b : List ℕ) → IsStacked whole at rest b → rest ≡ 0 → take (18 - (at - 2)) (drop (at - 2) (set (set b (at - 1) (18 - at)) (at - 2) tag)) ≡ tag ∷ counted whole
headed whole at rest tag b h none =
    let c = set (set b (at - 1) (18 - at)) (at - 2) tag in
    let l : length c ≡ 18 = length-set (set b (at - 1) (18 - at)) (at - 2) tag ∙ length-set b (at - 1) (18 - at) ∙ h.len in
    take_all (18 - (at - 2)) (drop (at - 2) c) (omega (arith, length-drop (at - 2) c, l)) ∙ headed_from whole at rest tag b h none
