-- What a tree is printed as is UTF-8.
use lib.Utf8.{low_scalar, scalar, encode, scalars, encodes}
use Rattle.std.specs.Fmt.{signed_decimal}
use Rattle.std.proofs.Common.{ℕ, ◌<◌, List, [], ◌∷◌, IsUtf8, subst, arith, Bool, true, ◌&&◌, nat_lt, ◌≡◌, ◌++◌, ltb-true, zero, suc, inl, inr, refl, ◌≤◌, length, get_or, ap₂, ap, sym, append-nil, false, codes, Some}
use Rattle.std.proofs.lemmas.Bool.{and_parts, cases_eq, cases_lt}
use Rattle.std.proofs.lemmas.Bool.Decides.{nat_tests}
use Rattle.std.proofs.lemmas.Str.{IsUtf8-append, IsUtf8-encode, encode_ascii, inside_one, IsUtf8-nil}
use Rattle.sw_tree.specs.Tree.{Tree, null, truth, int, text, bytes, list, map, Trees, no_trees, tree, Entries, no_entries, entry}
use Rattle.sw_tree.specs.Image.{image}
use Rattle.sw_tree.specs.Proper.{IsProper}
use Rattle.sw_tree.specs.declared.mode.WireKind.TheVariants.{Json}
use Rattle.sw_tree.specs.declared.mode.Place.TheVariants.{Value}
use Rattle.sw_tree.specs.Laws.Utf8.{signed_decimal-utf8}
use Rattle.sw_json.specs.Text.{escape_of, escaped, text_of, items_text, more_items, entries_text, more_entries}
use Rattle.sw_json.specs.Images.{IsKey, IsImage, AreImages, AreImageEntries}
use Rattle.sw_json.specs.Laws.PrintedImages.{image_is}

-- ---- ASCII
ascii_then : (b : ℕ) (bs : List ℕ) → b < 128 → IsUtf8 bs → IsUtf8 (b ∷ bs)
ascii_then b bs small u = IsUtf8-append (b ∷ []) bs (subst IsUtf8 (encode_ascii b small) (IsUtf8-encode b (low_scalar b (omega (arith, small))))) u

abbrev are_ascii : List ℕ → Bool
are_ascii [] = true
are_ascii (b ∷ bs) = nat_lt b 128 && are_ascii bs

ascii_front : (s k : List ℕ) → are_ascii s ≡ true → IsUtf8 k → IsUtf8 (s ++ k)
ascii_front [] k e u = u
ascii_front (b ∷ s) k e u = let p = and_parts _ _ e in ascii_then b (s ++ k) (ltb-true _ _ p.0) (ascii_front s k p.1 u)

-- ---- what stands between quotation marks
-- the escapes of the bytes below n are ASCII
abbrev escapes_below : ℕ → Bool
escapes_below zero = true
escapes_below (suc n) = are_ascii (escape_of n) && escapes_below n

escape_below : (n : ℕ) → escapes_below n ≡ true → (b : ℕ) → b < n → are_ascii (escape_of b) ≡ true
escape_below zero e b h = absurd (omega (arith, h))
escape_below (suc n) e b h =
    let p = and_parts _ _ e in
    elim (cases_eq b n) [ inl same ↦ rw same p.0 | inr other ↦ escape_below n p.1 b (omega (arith, h, other)) ]

all_ascii : escapes_below 128 ≡ true
unfolding escape_of
all_ascii = refl

-- a byte that isn't ASCII stands for itself
high_byte : (b : ℕ) → 128 ≤ b → escape_of b ≡ b ∷ []
unfolding escape_of
high_byte b h = grind (arith, nat_tests, h)

high_bytes : (s k : List ℕ) → ((i : ℕ) → i < length s → 128 ≤ get_or s i 0) → escaped s k ≡ s ++ k
high_bytes [] k h = refl
high_bytes (b ∷ s) k h = ap₂ (λ (x y : List ℕ). x ++ y) (high_byte b (h 0 (omega arith))) (high_bytes s k (λ i below. h (suc i) (omega (arith, below))))

-- a text in two parts
escaped-parts : (s t k : List ℕ) → escaped (s ++ t) k ≡ escaped s (escaped t k)
escaped-parts [] t k = refl
escaped-parts (b ∷ s) t k = ap (λ x. escape_of b ++ x) (escaped-parts s t k)

one_character : (c : ℕ) (k : List ℕ) → scalar c ≡ true → IsUtf8 k → IsUtf8 (escaped (encode c) k)
one_character c k ok u = elim (cases_lt c 128) [
  | inl small ↦ subst (λ s. IsUtf8 (escaped s k)) (sym (encode_ascii c small)) (ascii_front (escape_of c) k (escape_below 128 all_ascii c small) u)
  | inr big ↦
      let high : (i : ℕ) → i < length (encode c) → 128 ≤ get_or (encode c) i 0 = λ i below. elim (cases_lt (get_or (encode c) i 0) 128) [
        | inl low ↦ absurd (omega (arith, inside_one c [] (encode c) i (sym (append-nil _)) below low, low, big))
        | inr h ↦ h
      ] in
      subst IsUtf8 (sym (high_bytes (encode c) k high)) (IsUtf8-append (encode c) k (IsUtf8-encode c ok) u)
]

all_characters : (cs k : List ℕ) → scalars cs ≡ true → IsUtf8 k → IsUtf8 (escaped (encodes cs) k)
all_characters [] k e u = u
all_characters (c ∷ cs) k e u =
    let p = and_parts _ _ e in
    subst IsUtf8 (sym (escaped-parts (encode c) (encodes cs) k)) (one_character c (escaped (encodes cs) k) p.0 (all_characters cs k p.1 u))

escaped_utf8 : (s k : List ℕ) → IsUtf8 s → IsUtf8 k → IsUtf8 (escaped s k)
escaped_utf8 s k h u = subst (λ x. IsUtf8 (escaped x k)) h.1.1 (all_characters h.0 k h.1.0 u)

quoted_utf8 : (s k : List ℕ) → IsUtf8 s → IsUtf8 k → IsUtf8 (34 ∷ escaped s (34 ∷ k))
quoted_utf8 s k h u = ascii_then 34 (escaped s (34 ∷ k)) (omega arith) (escaped_utf8 s (34 ∷ k) h (ascii_then 34 k (omega arith) u))

-- ---- trees
key_utf8 : (key : Tree) (k : List ℕ) → IsKey key → IsUtf8 k → IsUtf8 (text_of key k)
key_utf8 null k h u = absurd h
key_utf8 (truth b) k h u = absurd h
key_utf8 (int n) k h u = absurd h
key_utf8 (text s) k h u = quoted_utf8 s k h u
key_utf8 (bytes s) k h u = absurd h
key_utf8 (list ts) k h u = absurd h
key_utf8 (map es) k h u = absurd h

-- a key and its colon
named_utf8 : (key : Tree) (k : List ℕ) → IsKey key → IsUtf8 k → IsUtf8 (text_of key (58 ∷ k))
named_utf8 key k h u = key_utf8 key (58 ∷ k) h (ascii_then 58 k (omega arith) u)

mutual
  text_utf8 : (t : Tree) (k : List ℕ) → IsImage t → IsUtf8 k → IsUtf8 (text_of t k)
  text_utf8 null k h u = ascii_front (codes "null") k refl u
  text_utf8 (truth true) k h u = ascii_front (codes "true") k refl u
  text_utf8 (truth false) k h u = ascii_front (codes "false") k refl u
  text_utf8 (int n) k h u = IsUtf8-append (signed_decimal n) k (signed_decimal-utf8 n h) u
  text_utf8 (text s) k h u = quoted_utf8 s k h u
  text_utf8 (bytes s) k h u = absurd h
  text_utf8 (list ts) k h u = ascii_then 91 (items_text ts k) (omega arith) (items_utf8 ts k h u)
  text_utf8 (map es) k h u = ascii_then 123 (entries_text es k) (omega arith) (entries_utf8 es k h u)

  items_utf8 : (ts : Trees) (k : List ℕ) → AreImages ts → IsUtf8 k → IsUtf8 (items_text ts k)
  items_utf8 no_trees k h u = ascii_then 93 k (omega arith) u
  items_utf8 (tree t ts) k h u = text_utf8 t (more_items ts k) h.0 (more_items_utf8 ts k h.1 u)

  more_items_utf8 : (ts : Trees) (k : List ℕ) → AreImages ts → IsUtf8 k → IsUtf8 (more_items ts k)
  more_items_utf8 no_trees k h u = ascii_then 93 k (omega arith) u
  more_items_utf8 (tree t ts) k h u = ascii_then 44 (text_of t (more_items ts k)) (omega arith) (text_utf8 t (more_items ts k) h.0 (more_items_utf8 ts k h.1 u))

  entries_utf8 : (es : Entries) (k : List ℕ) → AreImageEntries es → IsUtf8 k → IsUtf8 (entries_text es k)
  entries_utf8 no_entries k h u = ascii_then 125 k (omega arith) u
  entries_utf8 (entry key value es) k h u =
      named_utf8 key (text_of value (more_entries es k)) h.0 (text_utf8 value (more_entries es k) h.1 (more_entries_utf8 es k h.2 u))

  more_entries_utf8 : (es : Entries) (k : List ℕ) → AreImageEntries es → IsUtf8 k → IsUtf8 (more_entries es k)
  more_entries_utf8 no_entries k h u = ascii_then 125 k (omega arith) u
  more_entries_utf8 (entry key value es) k h u = ascii_then 44 (text_of key (58 ∷ text_of value (more_entries es k))) (omega arith)
      (named_utf8 key (text_of value (more_entries es k)) h.0 (text_utf8 value (more_entries es k) h.1 (more_entries_utf8 es k h.2 u)))

-- the text of an image is UTF-8
pub image_utf8 : (t : Tree) → IsImage t → IsUtf8 (text_of t [])
image_utf8 t h = text_utf8 t [] h IsUtf8-nil

-- and so is that of the image of a proper tree
pub printed_utf8 : (t i : Tree) → IsProper t → image Json Value t ≡ Some i → IsUtf8 (text_of i [])
printed_utf8 t i h e = image_utf8 i (image_is t i h e).0
