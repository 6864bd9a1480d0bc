-- Vectors of bytes, and the mask of those that don't stand for themselves in a text.
use Rattle.std.proofs.Common.{◌≡◌, ℕ, zero, suc, ◌+◌, ◌*◌, ◌%◌, ◌^◌, ◌<◌, ◌≤◌, Bool, true, false, not, cond, eqb, leb, ltb, ◌==◌, List, [], ◌∷◌, map, length, take, drop, get_or, replicate, bit_or, refl, sym, ap, ap₂, subst, ◌∙◌, arith, IsUtf8, IsAscii}
use Rattle.std.proofs.lemmas.Bool.{eq-eqb, ne_eqb, eqb-true, ltb-true}
use Rattle.std.proofs.lemmas.Str.{IsUtf8-from_ascii}
use Rattle.std.proofs.lemmas.Bool.Decides.{nat_tests}
use Rattle.std.proofs.lemmas.Simd.{zip2_splat, zip2_splat_left, mask_l-mod, chunk-drop, length-chunk, leading_from_mask_l, trailing_mask_l, none_from_empty_mask}
use Rattle.std.proofs.lemmas.List.{length-map, length-drop}
use Rattle.std.proofs.lemmas.List.Folds.{prefix_len-append}
use Rattle.std.proofs.lemmas.List.Sums.{prefix_len-le-length}
use Rattle.std.specs.Prelude.{◌||◌}
use Rattle.std.specs.Bool.{OnTrue}
use Rattle.std.specs.List.{list_all, prefix_len}
use lib.Lanes.{chunk, zip2, mask_l, top}
use lib.Count.{count_trailing_zeros}
use Rattle.sw_json.specs.Bytes.{is_plain, front, behind}
use Rattle.sw_json.specs.Inner.Plain.{is_plain_ascii, ArePlain}
use Rattle.sw_json.specs.Laws.Fronts.{and_left, and_right, front_passes}

-- ---- the mask of a vector

abbrev pub stops : (ℕ → Bool) → ℕ → Bool
stops p b = not (p b)

-- what a comparison leaves in a lane
abbrev lane : Bool → ℕ
lane b = cond b 255 0

abbrev lanes : ℕ → ℕ
lanes b = bit_or (bit_or (lane (eqb b 34)) (lane (eqb b 92))) (lane (ltb b 32))

top_is : (p q r : Bool) → top 7 (bit_or (bit_or (lane p) (lane q)) (lane r)) ≡ (p || q || r)
top_is true true true = refl
top_is true true false = refl
top_is true false true = refl
top_is true false false = refl
top_is false true true = refl
top_is false true false = refl
top_is false false true = refl
top_is false false false = refl

stops_is : (b : ℕ) → (eqb b 34 || eqb b 92 || ltb b 32) ≡ stops is_plain b
unfolding is_plain
stops_is b = grind (arith, nat_tests)

each : (f : ℕ → ℕ) (p : ℕ → Bool) → ((b : ℕ) → top 7 (f b) ≡ p b) → (v : List ℕ) → map (top 7) (map f v) ≡ map p v
each f p is [] = refl
each f p is (b ∷ v) = ap₂ (λ x xs. x ∷ xs) (is b) (each f p is v)

both : (f g : ℕ → ℕ) (v a b : List ℕ) → a ≡ map f v → b ≡ map g v → zip2 bit_or a b ≡ map (λ x. bit_or (f x) (g x)) v
both f g v a b p q = ap₂ (zip2 bit_or) p q ∙ over v
  where
    over : (xs : List ℕ) → zip2 bit_or (map f xs) (map g xs) ≡ map (λ x. bit_or (f x) (g x)) xs
    over [] = refl
    over (x ∷ xs) = ap (λ r. bit_or (f x) (g x) ∷ r) (over xs)

abbrev pub equals : ℕ → ℕ → ℕ
equals a b = cond (eqb a b) 255 0

abbrev pub below : ℕ → ℕ → ℕ
below a b = cond (ltb a b) 255 0

tests : (v : List ℕ) (n : ℕ) → length v ≡ n → zip2 bit_or (zip2 bit_or (zip2 equals v (replicate n 34)) (zip2 equals v (replicate n 92))) (zip2 below v (replicate n 32)) ≡ map lanes v
tests v n long = both _ _ v _ _ (both _ _ v _ _ (zip2_splat equals v n 34 long) (zip2_splat equals v n 92 long)) (zip2_splat below v n 32 long)

masked : (f : ℕ → ℕ) (p : ℕ → Bool) → ((b : ℕ) → top 7 (f b) ≡ p b) → (v z : List ℕ) → length v ≤ 64 → z ≡ map f v → mask_l (map (top 7) z) % 2 ^ 64 ≡ mask_l (map p v)
masked f p is v z few e = ap (λ l. mask_l l % 2 ^ 64) (ap (map (top 7)) e ∙ each f p is v) ∙ mask_l-mod (map p v) 64 (omega (arith, length-map v p, few))

pub stops_mask : (v : List ℕ) (n : ℕ) → length v ≡ n → n ≤ 64
    → mask_l (map (top 7) (zip2 bit_or (zip2 bit_or (zip2 equals v (replicate n 34)) (zip2 equals v (replicate n 92))) (zip2 below v (replicate n 32)))) % 2 ^ 64 ≡ mask_l (map (stops is_plain) v)
stops_mask v n long few = masked lanes (stops is_plain) (λ b. top_is (eqb b 34) (eqb b 92) (ltb b 32) ∙ stops_is b) v _ (omega (arith, long)) (tests v n long)

-- ---- the same where a byte that isn't ASCII stops too

top_is_too : (p q r s : Bool) → top 7 (bit_or (bit_or (bit_or (lane p) (lane q)) (lane r)) (lane s)) ≡ (p || q || r || s)
top_is_too true true true true = refl
top_is_too true true true false = refl
top_is_too true true false true = refl
top_is_too true true false false = refl
top_is_too true false true true = refl
top_is_too true false true false = refl
top_is_too true false false true = refl
top_is_too true false false false = refl
top_is_too false true true true = refl
top_is_too false true true false = refl
top_is_too false true false true = refl
top_is_too false true false false = refl
top_is_too false false true true = refl
top_is_too false false true false = refl
top_is_too false false false true = refl
top_is_too false false false false = refl

stops_too_is : (b : ℕ) → (eqb b 34 || eqb b 92 || ltb b 32 || leb 128 b) ≡ stops is_plain_ascii b
unfolding is_plain
stops_too_is b = grind (arith, nat_tests)

abbrev pub at_most : ℕ → ℕ → ℕ
at_most a b = cond (leb a b) 255 0

pub ascii_stops_mask : (v : List ℕ) (n : ℕ) → length v ≡ n → n ≤ 64
    → mask_l (map (top 7) (zip2 bit_or (zip2 bit_or (zip2 bit_or (zip2 equals v (replicate n 34)) (zip2 equals v (replicate n 92))) (zip2 below v (replicate n 32))) (zip2 at_most (replicate n 128) v))) % 2 ^ 64 ≡ mask_l (map (stops is_plain_ascii) v)
ascii_stops_mask v n long few =
    let all = both _ _ v _ _ (tests v n long) (zip2_splat_left at_most 128 n v long) in
    masked (λ b. bit_or (lanes b) (lane (leb 128 b))) (stops is_plain_ascii) (λ b. top_is_too (eqb b 34) (eqb b 92) (ltb b 32) (leb 128 b) ∙ stops_too_is b) v _ (omega (arith, long)) all

-- ---- runs of plain bytes

plain_is : (b : Bool) → not b ≡ false → b ≡ true
plain_is true h = refl
plain_is false h = cc

plain_where_none : (bytes : List ℕ) (at n : ℕ) → at + n ≤ length bytes → mask_l (map (stops is_plain) (chunk at n bytes)) ≡ 0 → ArePlain bytes at (at + n)
plain_where_none bytes at n room none k from to = plain_is (is_plain (get_or bytes k 0)) (none_from_empty_mask (stops is_plain) bytes at n 0 room none k from to)

on_true : (b : Bool) (P : Type 0) → (b ≡ true → P) → OnTrue b P
on_true true P f = f refl
on_true false P f = tt

pub plain_on_zero : (mask : ℕ) (bytes : List ℕ) (at n : ℕ) → at + n ≤ length bytes → mask ≡ mask_l (map (stops is_plain) (chunk at n bytes)) → OnTrue (mask == 0) (ArePlain bytes at (at + n))
plain_on_zero mask bytes at n room is = on_true (mask == 0) (ArePlain bytes at (at + n)) (λ e. plain_where_none bytes at n room (sym is ∙ eqb-true mask 0 e))

not-not : (b : Bool) → b ≡ not (not b)
not-not true = refl
not-not false = refl

more : (n : ℕ) → suc n ≡ 1 + n
more n = omega arith

none_stops : (b : Bool) (n l m : ℕ) → n ≤ l → cond b (1 + n) 0 ≡ suc l → (n ≡ l → m ≡ 0) → cond (not b) 1 0 + 2 * m ≡ 0
none_stops true n l m le e f = let z = f (omega arith) in omega arith
none_stops false n l m le e f = absurd (omega arith)

-- ---- runs of bytes that pass

module _ (p : ℕ → Bool) where
  same_len : (bs : List ℕ) → prefix_len p bs ≡ prefix_len (λ b. not (stops p b)) bs
  same_len [] = refl
  same_len (b ∷ bs) = ap₂ (λ t n. cond t (1 + n) 0) (not-not (p b)) (same_len bs)

  split_len : (d : List ℕ) (i n : ℕ) → prefix_len p (drop i d) ≡ cond (eqb (prefix_len p (chunk i n d)) (length (chunk i n d))) (length (chunk i n d) + prefix_len p (drop (i + n) d)) (prefix_len p (chunk i n d))
  split_len d i n = ap (prefix_len p) (chunk-drop i n d) ∙ prefix_len-append p (chunk i n d) (drop (i + n) d)

  pub goes_through : (d : List ℕ) (i n : ℕ) → i + n ≤ length d → mask_l (map (stops p) (chunk i n d)) ≡ 0 → prefix_len p (drop i d) ≡ n + prefix_len p (drop (i + n) d)
  goes_through d i n room none =
      let c = chunk i n d in
      split_len d i n ∙ ap (λ b. cond b (length c + prefix_len p (drop (i + n) d)) (prefix_len p c)) (eq-eqb _ _ (same_len c ∙ leading_from_mask_l (stops p) c none))
      ∙ ap (λ k. k + prefix_len p (drop (i + n) d)) (length-chunk i n d room)

  all_pass : (xs : List ℕ) → prefix_len p xs ≡ length xs → mask_l (map (stops p) xs) ≡ 0
  all_pass [] e = refl
  all_pass (x ∷ xs) e = none_stops (p x) _ (length xs) _ (prefix_len-le-length p xs) e (all_pass xs)

  pub ends_within : (d : List ℕ) (i n : ℕ) → i + n ≤ length d → n ≤ 64 → 0 < mask_l (map (stops p) (chunk i n d)) → prefix_len p (drop i d) ≡ count_trailing_zeros 64 (mask_l (map (stops p) (chunk i n d)))
  ends_within d i n room few some =
      let c = chunk i n d in
      split_len d i n ∙ ap (λ b. cond b (length c + prefix_len p (drop (i + n) d)) (prefix_len p c)) (ne_eqb _ _ (λ (e : prefix_len p c ≡ length c). omega (arith, all_pass c e)))
      ∙ same_len c ∙ sym (trailing_mask_l (stops p) 64 c (omega (arith, length-chunk i n d room)) some)

  pub len_fits : (d : List ℕ) (i : ℕ) → i ≤ length d → i + prefix_len p (drop i d) ≤ length d
  len_fits d i h = omega (arith, prefix_len-le-length p (drop i d), length-drop i d)

-- ---- the run and what is behind it, by its length

module _ (p : ℕ → Bool) where
  front_step : (t : Bool) (b : ℕ) (bs : List ℕ) → front p bs ≡ take (prefix_len p bs) bs → cond t (b ∷ front p bs) [] ≡ take (cond t (1 + prefix_len p bs) 0) (b ∷ bs)
  front_step true b bs h = ap (λ x. b ∷ x) h ∙ ap (λ n. take n (b ∷ bs)) (more (prefix_len p bs))
  front_step false b bs h = refl

  pub front_len : (bs : List ℕ) → front p bs ≡ take (prefix_len p bs) bs
  front_len [] = refl
  front_len (b ∷ bs) = front_step (p b) b bs (front_len bs)

  behind_step : (t : Bool) (b : ℕ) (bs : List ℕ) → behind p bs ≡ drop (prefix_len p bs) bs → cond t (behind p bs) (b ∷ bs) ≡ drop (cond t (1 + prefix_len p bs) 0) (b ∷ bs)
  behind_step true b bs h = h ∙ ap (λ n. drop n (b ∷ bs)) (more (prefix_len p bs))
  behind_step false b bs h = refl

  pub behind_len : (bs : List ℕ) → behind p bs ≡ drop (prefix_len p bs) bs
  behind_len [] = refl
  behind_len (b ∷ bs) = behind_step (p b) b bs (behind_len bs)

-- ---- ASCII

quote_stops : is_plain 34 ≡ false
unfolding is_plain
quote_stops = refl

ascii_step : (t u : Bool) (b : ℕ) (bs rest : List ℕ) → is_plain_ascii b ≡ t → is_plain b ≡ u
    → (behind is_plain_ascii bs ≡ 34 ∷ rest → (front is_plain_ascii bs ≡ front is_plain bs) × (behind is_plain bs ≡ 34 ∷ rest))
    → cond t (behind is_plain_ascii bs) (b ∷ bs) ≡ 34 ∷ rest
    → (cond t (b ∷ front is_plain_ascii bs) [] ≡ cond u (b ∷ front is_plain bs) []) × (cond u (behind is_plain bs) (b ∷ bs) ≡ 34 ∷ rest)
ascii_step true true b bs rest d e f h = (ap (λ x. b ∷ x) (f h).0, (f h).1)
ascii_step true false b bs rest d e f h = let no : is_plain b ≡ true = and_left (is_plain b) (ltb b 128) d in absurd (cc)
ascii_step false true b bs rest d e f h = let q : b ≡ 34 = cc in let no : is_plain b ≡ false = ap is_plain q ∙ quote_stops in absurd (cc)
ascii_step false false b bs rest d e f h = (refl, h)

-- up to a quotation mark, what is plain and ASCII is what is plain
pub ascii_run : (bytes rest : List ℕ) → behind is_plain_ascii bytes ≡ 34 ∷ rest → (front is_plain_ascii bytes ≡ front is_plain bytes) × (behind is_plain bytes ≡ 34 ∷ rest)
ascii_run [] rest h = absurd (cc)
ascii_run (b ∷ bs) rest h = ascii_step (is_plain_ascii b) (is_plain b) b bs rest refl refl (ascii_run bs rest) h

all_ascii : (s : List ℕ) → list_all is_plain_ascii s ≡ true → IsAscii s
all_ascii [] h i = omega arith
all_ascii (b ∷ bs) h zero = ltb-true b 128 (and_right (is_plain b) (ltb b 128) (and_left (is_plain_ascii b) (list_all is_plain_ascii bs) h))
all_ascii (b ∷ bs) h (suc i) = all_ascii bs (and_right (is_plain_ascii b) (list_all is_plain_ascii bs) h) i

pub ascii_utf8 : (bytes run : List ℕ) → run ≡ take (prefix_len is_plain_ascii bytes) bytes → IsUtf8 run
ascii_utf8 bytes run e =
    subst IsUtf8 (front_len is_plain_ascii bytes ∙ sym e) (IsUtf8-from_ascii (front is_plain_ascii bytes) (all_ascii (front is_plain_ascii bytes) (front_passes is_plain_ascii bytes)))
