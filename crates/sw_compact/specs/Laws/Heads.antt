-- A head is read where it is spelled, and what is read is spelled so.
use Rattle.std.proofs.Common.{◌≡◌, ◌≤◌, ◌<◌, ◌^◌, ◌+◌, ◌++◌, append_assoc, ℕ, Bool, true, false, cond, List, [], ◌∷◌, length, refl, ap, ap₂, sym, subst, ◌∙◌, arith, nat_le, nat_lt}
use Rattle.std.proofs.lemmas.Bool.Decides.{nat_tests}
use Rattle.std.proofs.lemmas.Str.{is_utf8-from_IsUtf8, IsUtf8-from_is_utf8}
use Rattle.std.specs.Prelude.{pos, negsuc, Some, None, ◌==◌, option_map, option_and_then, if◌then◌else◌}
use Rattle.std.specs.Str.{is_utf8}
use Rattle.sw_tree.specs.Steps.{Each}
use Rattle.sw_tree.specs.Laws.Options.{some_is, none_some}
use Rattle.sw_tree.specs.Tree.{Tree, null, truth, int, text, bytes, list, map}
use Rattle.sw_tree.specs.Proper.{IsProper}
use Rattle.sw_tree.specs.Short.{IsShort, IsLength}
use Rattle.sw_compact.specs.Lengths.{length_bytes}
use Rattle.sw_compact.specs.Numbers.{counted}
use Rattle.sw_compact.specs.Spelling.{spelling}
use Rattle.sw_compact.specs.Head.{Front, Head, leaf, opens, split, length_front, number_front, negative, textual, opening, head}
use Rattle.sw_compact.specs.Laws.Numbers.{AreBytes, are_bytes, first_byte, other_bytes, split_read, split_sound, number_read, number_sound}
use Rattle.sw_compact.specs.Laws.Lengths.{length_read, length_sound}
use Rattle.sw_compact.specs.Laws.Utf8.{utf8_bytes}
use Rattle.sw_compact.specs.declared.version.Version.{Version}

-- ---- what is spelled

-- a tree without parts
abbrev pub IsLeaf : Tree → Type 0
IsLeaf (list ts) = ⊥
IsLeaf (map es) = ⊥
IsLeaf t = Unit {0}

-- so many parts, by the count of a list or map
abbrev pub parts : Bool → ℕ → ℕ
parts false c = c
parts true c = c + c

abbrev pub tag : Bool → ℕ
tag false = 7
tag true = 8

-- The bytes are a leaf, and what is behind it.
pub record IsLeafAt (v : Version) (b : List ℕ) (t : Tree) (k : List ℕ) : Type 0 where
  pub leaf : IsLeaf t
  pub proper : IsProper t
  pub short : IsShort t
  pub spelled : b ≡ spelling v t k

-- The bytes are the opening of a list or map of so many parts, and what is behind it, in which there are no fewer bytes.
pub record OpensAt (v : Version) (b : List ℕ) (m : Bool) (n : ℕ) (k : List ℕ) : Type 0 where
  pub count : ℕ
  pub parts_are : n ≡ parts m count
  pub low : IsLength count
  pub enough : n ≤ length k
  pub spelled : b ≡ tag m ∷ (length_bytes v count ++ k)

abbrev pub IsAt : Version → List ℕ → Head → List ℕ → Type 0
IsAt v b (leaf t) k = IsLeafAt v b t k
IsAt v b (opens m n) k = OpensAt v b m n k

-- ---- by the tags

abbrev counted_front : Version → List ℕ → Front (List ℕ)
counted_front v b = option_and_then (λ x. split x.0 x.1) (length_front v b)

-- what is behind each tag
abbrev behind_0 : Version → List ℕ → Front Head
behind_0 v b = Some (leaf null, b)

abbrev behind_1 : Version → List ℕ → Front Head
behind_1 v b = Some (leaf (truth false), b)

abbrev behind_2 : Version → List ℕ → Front Head
behind_2 v b = Some (leaf (truth true), b)

abbrev behind_3 : Version → List ℕ → Front Head
behind_3 v b = option_map (λ x. (leaf (int (pos x.0)), x.1)) (number_front b)

abbrev behind_4 : Version → List ℕ → Front Head
behind_4 v b = option_and_then negative (number_front b)

abbrev behind_5 : Version → List ℕ → Front Head
behind_5 v b = option_and_then textual (counted_front v b)

abbrev behind_6 : Version → List ℕ → Front Head
behind_6 v b = option_map (λ x. (leaf (bytes x.0), x.1)) (counted_front v b)

abbrev behind_7 : Version → List ℕ → Front Head
behind_7 v b = option_and_then (λ x. opening false x.0 x.1) (length_front v b)

abbrev behind_8 : Version → List ℕ → Front Head
behind_8 v b = option_and_then (λ x. opening true (x.0 + x.0) x.1) (length_front v b)

abbrev from_8 : Version → ℕ → List ℕ → Front Head
from_8 v t b = if t == 8 then behind_8 v b else None

abbrev from_7 : Version → ℕ → List ℕ → Front Head
from_7 v t b = if t == 7 then behind_7 v b else (from_8 v t b)

abbrev from_6 : Version → ℕ → List ℕ → Front Head
from_6 v t b = if t == 6 then behind_6 v b else (from_7 v t b)

abbrev from_5 : Version → ℕ → List ℕ → Front Head
from_5 v t b = if t == 5 then behind_5 v b else (from_6 v t b)

abbrev from_4 : Version → ℕ → List ℕ → Front Head
from_4 v t b = if t == 4 then behind_4 v b else (from_5 v t b)

abbrev from_3 : Version → ℕ → List ℕ → Front Head
from_3 v t b = if t == 3 then behind_3 v b else (from_4 v t b)

abbrev from_2 : Version → ℕ → List ℕ → Front Head
from_2 v t b = if t == 2 then behind_2 v b else (from_3 v t b)

abbrev from_1 : Version → ℕ → List ℕ → Front Head
from_1 v t b = if t == 1 then behind_1 v b else (from_2 v t b)

abbrev from_0 : Version → ℕ → List ℕ → Front Head
from_0 v t b = if t == 0 then behind_0 v b else (from_1 v t b)

by_tag : (v : Version) (t : ℕ) (b : List ℕ) → head v (t ∷ b) ≡ from_0 v t b
unfolding head
by_tag v t b = refl

pub head_nothing : (v : Version) → head v [] ≡ None
unfolding head
head_nothing v = refl

pub read_0 : (v : Version) (b : List ℕ) → head v (0 ∷ b) ≡ behind_0 v b
read_0 v b = by_tag v 0 b

pub read_1 : (v : Version) (b : List ℕ) → head v (1 ∷ b) ≡ behind_1 v b
read_1 v b = by_tag v 1 b

pub read_2 : (v : Version) (b : List ℕ) → head v (2 ∷ b) ≡ behind_2 v b
read_2 v b = by_tag v 2 b

pub read_3 : (v : Version) (b : List ℕ) → head v (3 ∷ b) ≡ behind_3 v b
read_3 v b = by_tag v 3 b

pub read_4 : (v : Version) (b : List ℕ) → head v (4 ∷ b) ≡ behind_4 v b
read_4 v b = by_tag v 4 b

pub read_5 : (v : Version) (b : List ℕ) → head v (5 ∷ b) ≡ behind_5 v b
read_5 v b = by_tag v 5 b

pub read_6 : (v : Version) (b : List ℕ) → head v (6 ∷ b) ≡ behind_6 v b
read_6 v b = by_tag v 6 b

pub read_7 : (v : Version) (b : List ℕ) → head v (7 ∷ b) ≡ behind_7 v b
read_7 v b = by_tag v 7 b

pub read_8 : (v : Version) (b : List ℕ) → head v (8 ∷ b) ≡ behind_8 v b
read_8 v b = by_tag v 8 b

-- ---- bytes of byte strings

each_byte : (s : List ℕ) → AreBytes s → Each (λ b. b < 256) s
each_byte [] h = tt
each_byte (b ∷ s) h = (first_byte b s h, each_byte s (other_bytes b s h))

bytes_of_each : (s : List ℕ) → Each (λ b. b < 256) s → AreBytes s
bytes_of_each [] h = refl
bytes_of_each (b ∷ s) h = are_bytes b s h.0 (bytes_of_each s h.1)

-- ---- what is read, tag by tag

-- a part behind its length
record CountedAt (v : Version) (b s k : List ℕ) : Type 0 where
  spelled : b ≡ length_bytes v (length s) ++ (s ++ k)
  short : IsLength (length s)
  bytes : AreBytes s

counted_sound : (v : Version) (b s k : List ℕ) → counted_front v b ≡ Some (s, k) → CountedAt v b s k
counted_sound v b s k e = by (length_front v b) refl e
  where
    by : (o : Front ℕ) → length_front v b ≡ o → option_and_then (λ x. split x.0 x.1) o ≡ Some (s, k) → CountedAt v b s k
    by None f i = cc
    by (Some x) f i =
        let l = length_sound v b x.0 x.1 f in
        let p = split_sound x.0 x.1 s k i in
        record {
          spelled = l.0 ∙ ap₂ (λ (n : ℕ) (r : List ℕ). length_bytes v n ++ r) (sym p.count) p.is;
          short = subst IsLength (sym p.count) l.1;
          bytes = p.bytes;
        }

at_same : (v : Version) (b : List ℕ) (h g : Head) (k l : List ℕ) → ◌≡◌ {A = Front Head} (Some (h, k)) (Some (g, l)) → IsAt v b h k → IsAt v b g l
at_same v b h g k l e a = subst (λ (x : Head × List ℕ). IsAt v b x.0 x.1) (some_is e) a

is_0 : (v : Version) (b : List ℕ) (h : Head) (k : List ℕ) → behind_0 v b ≡ Some (h, k) → IsAt v (0 ∷ b) h k
is_0 v b h k e = at_same v (0 ∷ b) (leaf null) h b k e (record { leaf = tt; proper = tt; short = tt; spelled = refl })

is_1 : (v : Version) (b : List ℕ) (h : Head) (k : List ℕ) → behind_1 v b ≡ Some (h, k) → IsAt v (1 ∷ b) h k
is_1 v b h k e = at_same v (1 ∷ b) (leaf (truth false)) h b k e (record { leaf = tt; proper = tt; short = tt; spelled = refl })

is_2 : (v : Version) (b : List ℕ) (h : Head) (k : List ℕ) → behind_2 v b ≡ Some (h, k) → IsAt v (2 ∷ b) h k
is_2 v b h k e = at_same v (2 ∷ b) (leaf (truth true)) h b k e (record { leaf = tt; proper = tt; short = tt; spelled = refl })

is_3 : (v : Version) (b : List ℕ) (h : Head) (k : List ℕ) → behind_3 v b ≡ Some (h, k) → IsAt v (3 ∷ b) h k
is_3 v b h k e = by (number_front b) refl e
  where
    by : (o : Front ℕ) → number_front b ≡ o → ◌≡◌ {A = Front Head} (option_map (λ x. (leaf (int (pos x.0)), x.1)) o) (Some (h, k)) → IsAt v (3 ∷ b) h k
    by None f i = cc
    by (Some x) f i =
        let n = number_sound b x.0 x.1 f in
        at_same v (3 ∷ b) (leaf (int (pos x.0))) h x.1 k i (record { leaf = tt; proper = n.1; short = tt; spelled = ap (λ r. 3 ∷ r) n.0 })

is_4 : (v : Version) (b : List ℕ) (h : Head) (k : List ℕ) → behind_4 v b ≡ Some (h, k) → IsAt v (4 ∷ b) h k
is_4 v b h k e = by (number_front b) refl e
  where
    of : (x : ℕ × List ℕ) (t : Bool) → number_front b ≡ Some x → nat_lt x.0 (2 ^ 127) ≡ t → ◌≡◌ {A = Front Head} (cond t (Some (leaf (int (negsuc x.0)), x.1)) None) (Some (h, k)) → IsAt v (4 ∷ b) h k
    of x true f low i =
        let n = number_sound b x.0 x.1 f in
        let small : x.0 < 2 ^ 127 = grind (arith, nat_tests) in
        at_same v (4 ∷ b) (leaf (int (negsuc x.0))) h x.1 k i (record { leaf = tt; proper = small; short = tt; spelled = ap (λ r. 4 ∷ r) n.0 })
    of x false f low i = cc

    by : (o : Front ℕ) → number_front b ≡ o → option_and_then negative o ≡ Some (h, k) → IsAt v (4 ∷ b) h k
    by None f i = cc
    by (Some x) f i = of x (nat_lt x.0 (2 ^ 127)) f refl i

is_5 : (v : Version) (b : List ℕ) (h : Head) (k : List ℕ) → behind_5 v b ≡ Some (h, k) → IsAt v (5 ∷ b) h k
is_5 v b h k e = by (counted_front v b) refl e
  where
    of : (x : List ℕ × List ℕ) (t : Bool) → counted_front v b ≡ Some x → is_utf8 x.0 ≡ t → ◌≡◌ {A = Front Head} (cond t (Some (leaf (text x.0), x.1)) None) (Some (h, k)) → IsAt v (5 ∷ b) h k
    of x true f u i =
        let c = counted_sound v b x.0 x.1 f in
        at_same v (5 ∷ b) (leaf (text x.0)) h x.1 k i
        (record { leaf = tt; proper = IsUtf8-from_is_utf8 x.0 u; short = c.short; spelled = ap (λ r. 5 ∷ r) (c.spelled ∙ sym (append_assoc (length_bytes v (length x.0)) x.0 x.1)) })
    of x false f u i = cc

    by : (o : Front (List ℕ)) → counted_front v b ≡ o → option_and_then textual o ≡ Some (h, k) → IsAt v (5 ∷ b) h k
    by None f i = cc
    by (Some x) f i = of x (is_utf8 x.0) f refl i

is_6 : (v : Version) (b : List ℕ) (h : Head) (k : List ℕ) → behind_6 v b ≡ Some (h, k) → IsAt v (6 ∷ b) h k
is_6 v b h k e = by (counted_front v b) refl e
  where
    by : (o : Front (List ℕ)) → counted_front v b ≡ o → ◌≡◌ {A = Front Head} (option_map (λ x. (leaf (bytes x.0), x.1)) o) (Some (h, k)) → IsAt v (6 ∷ b) h k
    by None f i = cc
    by (Some x) f i =
        let c = counted_sound v b x.0 x.1 f in
        at_same v (6 ∷ b) (leaf (bytes x.0)) h x.1 k i
        (record { leaf = tt; proper = each_byte x.0 c.bytes; short = c.short; spelled = ap (λ r. 6 ∷ r) (c.spelled ∙ sym (append_assoc (length_bytes v (length x.0)) x.0 x.1)) })

opened_at : (v : Version) (m : Bool) (b : List ℕ) (h : Head) (k : List ℕ) → option_and_then (λ x. opening m (parts m x.0) x.1) (length_front v b) ≡ Some (h, k) → IsAt v (tag m ∷ b) h k
opened_at v m b h k e = by (length_front v b) refl e
  where
    of : (x : ℕ × List ℕ) (t : Bool) → length_front v b ≡ Some x → nat_le (parts m x.0) (length x.1) ≡ t → ◌≡◌ {A = Front Head} (cond t (Some (opens m (parts m x.0), x.1)) None) (Some (h, k)) → IsAt v (tag m ∷ b) h k
    of x true f few i =
        let l = length_sound v b x.0 x.1 f in
        let enough : parts m x.0 ≤ length x.1 = grind (arith, nat_tests) in
        at_same v (tag m ∷ b) (opens m (parts m x.0)) h x.1 k i (record { count = x.0; parts_are = refl; low = l.1; enough = enough; spelled = ap (λ r. tag m ∷ r) l.0 })
    of x false f few i = cc

    by : (o : Front ℕ) → length_front v b ≡ o → option_and_then (λ x. opening m (parts m x.0) x.1) o ≡ Some (h, k) → IsAt v (tag m ∷ b) h k
    by None f i = cc
    by (Some x) f i = of x (nat_le (parts m x.0) (length x.1)) f refl i

tag_8 : (v : Version) (t : ℕ) (b : List ℕ) (h : Head) (k : List ℕ) → from_8 v t b ≡ Some (h, k) → IsAt v (t ∷ b) h k
tag_8 v t b h k e = by (t == 8) refl e
  where
    by : (q : Bool) → (t == 8) ≡ q → cond q (behind_8 v b) None ≡ Some (h, k) → IsAt v (t ∷ b) h k
    by true f i =
        let same : 8 ≡ t = grind (arith, nat_tests) in
        subst (λ z. IsAt v (z ∷ b) h k) same (opened_at v true b h k i)
    by false f i = cc

tag_7 : (v : Version) (t : ℕ) (b : List ℕ) (h : Head) (k : List ℕ) → from_7 v t b ≡ Some (h, k) → IsAt v (t ∷ b) h k
tag_7 v t b h k e = by (t == 7) refl e
  where
    by : (q : Bool) → (t == 7) ≡ q → cond q (behind_7 v b) (from_8 v t b) ≡ Some (h, k) → IsAt v (t ∷ b) h k
    by true f i =
        let same : 7 ≡ t = grind (arith, nat_tests) in
        subst (λ z. IsAt v (z ∷ b) h k) same (opened_at v false b h k i)
    by false f i = tag_8 v t b h k i

tag_6 : (v : Version) (t : ℕ) (b : List ℕ) (h : Head) (k : List ℕ) → from_6 v t b ≡ Some (h, k) → IsAt v (t ∷ b) h k
tag_6 v t b h k e = by (t == 6) refl e
  where
    by : (q : Bool) → (t == 6) ≡ q → cond q (behind_6 v b) (from_7 v t b) ≡ Some (h, k) → IsAt v (t ∷ b) h k
    by true f i =
        let same : 6 ≡ t = grind (arith, nat_tests) in
        subst (λ z. IsAt v (z ∷ b) h k) same (is_6 v b h k i)
    by false f i = tag_7 v t b h k i

tag_5 : (v : Version) (t : ℕ) (b : List ℕ) (h : Head) (k : List ℕ) → from_5 v t b ≡ Some (h, k) → IsAt v (t ∷ b) h k
tag_5 v t b h k e = by (t == 5) refl e
  where
    by : (q : Bool) → (t == 5) ≡ q → cond q (behind_5 v b) (from_6 v t b) ≡ Some (h, k) → IsAt v (t ∷ b) h k
    by true f i =
        let same : 5 ≡ t = grind (arith, nat_tests) in
        subst (λ z. IsAt v (z ∷ b) h k) same (is_5 v b h k i)
    by false f i = tag_6 v t b h k i

tag_4 : (v : Version) (t : ℕ) (b : List ℕ) (h : Head) (k : List ℕ) → from_4 v t b ≡ Some (h, k) → IsAt v (t ∷ b) h k
tag_4 v t b h k e = by (t == 4) refl e
  where
    by : (q : Bool) → (t == 4) ≡ q → cond q (behind_4 v b) (from_5 v t b) ≡ Some (h, k) → IsAt v (t ∷ b) h k
    by true f i =
        let same : 4 ≡ t = grind (arith, nat_tests) in
        subst (λ z. IsAt v (z ∷ b) h k) same (is_4 v b h k i)
    by false f i = tag_5 v t b h k i

tag_3 : (v : Version) (t : ℕ) (b : List ℕ) (h : Head) (k : List ℕ) → from_3 v t b ≡ Some (h, k) → IsAt v (t ∷ b) h k
tag_3 v t b h k e = by (t == 3) refl e
  where
    by : (q : Bool) → (t == 3) ≡ q → cond q (behind_3 v b) (from_4 v t b) ≡ Some (h, k) → IsAt v (t ∷ b) h k
    by true f i =
        let same : 3 ≡ t = grind (arith, nat_tests) in
        subst (λ z. IsAt v (z ∷ b) h k) same (is_3 v b h k i)
    by false f i = tag_4 v t b h k i

tag_2 : (v : Version) (t : ℕ) (b : List ℕ) (h : Head) (k : List ℕ) → from_2 v t b ≡ Some (h, k) → IsAt v (t ∷ b) h k
tag_2 v t b h k e = by (t == 2) refl e
  where
    by : (q : Bool) → (t == 2) ≡ q → cond q (behind_2 v b) (from_3 v t b) ≡ Some (h, k) → IsAt v (t ∷ b) h k
    by true f i =
        let same : 2 ≡ t = grind (arith, nat_tests) in
        subst (λ z. IsAt v (z ∷ b) h k) same (is_2 v b h k i)
    by false f i = tag_3 v t b h k i

tag_1 : (v : Version) (t : ℕ) (b : List ℕ) (h : Head) (k : List ℕ) → from_1 v t b ≡ Some (h, k) → IsAt v (t ∷ b) h k
tag_1 v t b h k e = by (t == 1) refl e
  where
    by : (q : Bool) → (t == 1) ≡ q → cond q (behind_1 v b) (from_2 v t b) ≡ Some (h, k) → IsAt v (t ∷ b) h k
    by true f i =
        let same : 1 ≡ t = grind (arith, nat_tests) in
        subst (λ z. IsAt v (z ∷ b) h k) same (is_1 v b h k i)
    by false f i = tag_2 v t b h k i

tag_0 : (v : Version) (t : ℕ) (b : List ℕ) (h : Head) (k : List ℕ) → from_0 v t b ≡ Some (h, k) → IsAt v (t ∷ b) h k
tag_0 v t b h k e = by (t == 0) refl e
  where
    by : (q : Bool) → (t == 0) ≡ q → cond q (behind_0 v b) (from_1 v t b) ≡ Some (h, k) → IsAt v (t ∷ b) h k
    by true f i =
        let same : 0 ≡ t = grind (arith, nat_tests) in
        subst (λ z. IsAt v (z ∷ b) h k) same (is_0 v b h k i)
    by false f i = tag_1 v t b h k i

-- what is read as a head is spelled so
pub head_sound : (v : Version) (b : List ℕ) (h : Head) (k : List ℕ) → head v b ≡ Some (h, k) → IsAt v b h k
head_sound v [] h k e = absurd (none_some (sym (head_nothing v) ∙ e))
head_sound v (t ∷ b) h k e = tag_0 v t b h k (sym (by_tag v t b) ∙ e)

-- ---- what is spelled is read

counted_read : (v : Version) (s k : List ℕ) → IsLength (length s) → AreBytes s → counted_front v (length_bytes v (length s) ++ s ++ k) ≡ Some (s, k)
counted_read v s k h b =
    ap (counted_front v) (append_assoc (length_bytes v (length s)) s k)
    ∙ ap (option_and_then (λ (x : ℕ × List ℕ). split x.0 x.1)) (length_read v (length s) (s ++ k) h) ∙ split_read s k b

pub leaf_read : (v : Version) (t : Tree) (k : List ℕ) → IsLeaf t → IsProper t → IsShort t → head v (spelling v t k) ≡ Some (leaf t, k)
leaf_read v null k l p s = read_0 v k
leaf_read v (truth false) k l p s = read_1 v k
leaf_read v (truth true) k l p s = read_2 v k
leaf_read v (int (pos n)) k l p s = read_3 v (counted n ++ k) ∙ ap (option_map (λ (x : ℕ × List ℕ). (leaf (int (pos x.0)), x.1))) (number_read n k p)
leaf_read v (int (negsuc n)) k l p s =
    let low : nat_lt n (2 ^ 127) ≡ true = grind (arith, nat_tests) in
    read_4 v (counted n ++ k) ∙ ap (option_and_then negative) (number_read n k (omega (arith, p))) ∙ rw low refl
leaf_read v (text s) k l p h =
    read_5 v (length_bytes v (length s) ++ s ++ k) ∙ ap (option_and_then textual) (counted_read v s k h (utf8_bytes s p)) ∙ rw (is_utf8-from_IsUtf8 s p) refl
leaf_read v (bytes s) k l p h =
    read_6 v (length_bytes v (length s) ++ s ++ k) ∙ ap (option_map (λ (x : List ℕ × List ℕ). (leaf (bytes x.0), x.1))) (counted_read v s k h (bytes_of_each s p))
leaf_read v (list ts) k l p s = absurd l
leaf_read v (map es) k l p s = absurd l

pub opening_read : (v : Version) (m : Bool) (n : ℕ) (k : List ℕ) → IsLength n → parts m n ≤ length k → head v (tag m ∷ (length_bytes v n ++ k)) ≡ Some (opens m (parts m n), k)
opening_read v false n k h few =
    let enough : nat_le n (length k) ≡ true = grind (arith, nat_tests) in
    read_7 v (length_bytes v n ++ k) ∙ ap (option_and_then (λ (x : ℕ × List ℕ). opening false x.0 x.1)) (length_read v n k h) ∙ rw enough refl
opening_read v true n k h few =
    let enough : nat_le (n + n) (length k) ≡ true = grind (arith, nat_tests) in
    read_8 v (length_bytes v n ++ k) ∙ ap (option_and_then (λ (x : ℕ × List ℕ). opening true (x.0 + x.0) x.1)) (length_read v n k h) ∙ rw enough refl
