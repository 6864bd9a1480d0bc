-- A tree is short where its text is: the text has as many bytes as each text and byte string in the tree, and as each list and map has
-- parts, or more.
use Rattle.std.specs.Fmt.{signed_decimal}
use Rattle.std.proofs.Common.{ℕ, ◌≤◌, List, length, Bool, true, false, cond, ltb, eqb, arith, ◌+◌, [], ◌∷◌, length-append, Option, Some, None, ◌≡◌, suc, refl, ap, option_map}
use Rattle.sw_tree.specs.Tree.{Trees, no_trees, tree, Entries, no_entries, entry, Tree, null, truth, int, text, bytes, list, map, items, pairs}
use Rattle.sw_tree.specs.Image.{key_image, numbers, next_tree, next_entry, value_image, trees_image, entries_image}
use Rattle.sw_tree.specs.Short.{IsLength, IsShort, AreShort, AreShortEntries}
use Rattle.sw_json.specs.Text.{escape_of, escaped, items_text, more_items, entries_text, more_entries, text_of, json_text}

-- ---- how long texts are
escape_choice : (c : Bool) (x y : List ℕ) → 1 ≤ length x → 1 ≤ length y → 1 ≤ length (cond c x y)
escape_choice true x y h k = h
escape_choice false x y h k = k

escape_long : (b : ℕ) → 1 ≤ length (escape_of b)
unfolding escape_of
escape_long b =
    escape_choice (eqb b 34) _ _ (omega arith) (
    escape_choice (eqb b 92) _ _ (omega arith) (
    escape_choice (eqb b 8) _ _ (omega arith) (
    escape_choice (eqb b 12) _ _ (omega arith) (
    escape_choice (eqb b 10) _ _ (omega arith) (
    escape_choice (eqb b 13) _ _ (omega arith) (
    escape_choice (eqb b 9) _ _ (omega arith) (
    escape_choice (ltb b 32) _ _ (omega arith) (omega arith))))))))

escaped_long : (s k : List ℕ) → length s + length k ≤ length (escaped s k)
escaped_long [] k = omega arith
escaped_long (b ∷ bs) k = omega (arith, length-append (escape_of b) (escaped bs k), escape_long b, escaped_long bs k)

-- with the bracket in front, a text is no shorter than what would stand behind another part
items_long : (ts : Trees) (k : List ℕ) → length (more_items ts k) ≤ length (91 ∷ items_text ts k)
items_long no_trees k = omega arith
items_long (tree t ts) k = omega arith

entries_long : (es : Entries) (k : List ℕ) → length (more_entries es k) ≤ length (123 ∷ entries_text es k)
entries_long no_entries k = omega arith
entries_long (entry key value es) k = omega arith

mutual
  value_long : (t : Tree) (k : List ℕ) → length k ≤ length (text_of t k)
  value_long null k = omega arith
  value_long (truth true) k = omega arith
  value_long (truth false) k = omega arith
  value_long (int n) k = omega (arith, length-append (signed_decimal n) k)
  value_long (text s) k = omega (arith, escaped_long s (34 ∷ k))
  value_long (bytes s) k = omega arith
  value_long (list ts) k = omega (arith, items_long ts k, more_items_long ts k)
  value_long (map es) k = omega (arith, entries_long es k, more_entries_long es k)

  -- a byte or more for each item
  more_items_long : (ts : Trees) (k : List ℕ) → length (items ts) + length k ≤ length (more_items ts k)
  more_items_long no_trees k = omega arith
  more_items_long (tree t ts) k = omega (arith, value_long t (more_items ts k), more_items_long ts k)

  more_entries_long : (es : Entries) (k : List ℕ) → length (pairs es) + length k ≤ length (more_entries es k)
  more_entries_long no_entries k = omega arith
  more_entries_long (entry key value es) k =
      omega (arith, value_long key (58 ∷ text_of value (more_entries es k)), value_long value (more_entries es k), more_entries_long es k)

-- ---- what is short by its text
abbrev IsShortBy : Tree → Option Tree → Type 0
IsShortBy t None = Unit {0}
IsShortBy t (Some i) = (k : List ℕ) → IsLength (length (text_of i k)) → IsShort t

-- an image has as many items
abbrev AreShortBy : Trees → Option Trees → Type 0
AreShortBy ts None = Unit {0}
AreShortBy ts (Some is) = (length (items is) ≡ length (items ts)) × ((k : List ℕ) → IsLength (length (more_items is k)) → AreShort ts)

abbrev AreShortEntriesBy : Entries → Option Entries → Type 0
AreShortEntriesBy es None = Unit {0}
AreShortEntriesBy es (Some is) = (length (pairs is) ≡ length (pairs es)) × ((k : List ℕ) → IsLength (length (more_entries is k)) → AreShortEntries es)

key_short : (t : Tree) → IsShortBy t (key_image t)
key_short null = tt
key_short (truth b) = λ k h. tt
key_short (int n) = λ k h. tt
key_short (text s) = λ k h. omega (arith, escaped_long s (34 ∷ k), h)
key_short (bytes s) = tt
key_short (list ts) = tt
key_short (map es) = tt

numbers_count : (s : List ℕ) → length (items (numbers s)) ≡ length s
numbers_count [] = refl
numbers_count (b ∷ bs) = ap suc (numbers_count bs)

list_short : (ts : Trees) (o : Option Trees) → AreShortBy ts o → IsShortBy (list ts) (option_map list o)
list_short ts None h = tt
list_short ts (Some is) h = λ k l. (omega (arith, h.0, items_long is k, more_items_long is k, l), h.1 k (omega (arith, items_long is k, l)))

map_short : (es : Entries) (o : Option Entries) → AreShortEntriesBy es o → IsShortBy (map es) (option_map map o)
map_short es None h = tt
map_short es (Some is) h = λ k l. (omega (arith, h.0, entries_long is k, more_entries_long is k, l), h.1 k (omega (arith, entries_long is k, l)))

next_short : (t : Tree) (ts : Trees) (o : Option Tree) (os : Option Trees) → IsShortBy t o → AreShortBy ts os → AreShortBy (tree t ts) (next_tree o os)
next_short t ts None os h m = tt
next_short t ts (Some i) None h m = tt
next_short t ts (Some i) (Some is) h m =
    (ap suc m.0, λ k l. (h (more_items is k) (omega (arith, l)), m.1 k (omega (arith, value_long i (more_items is k), l))))

next_entry_short : (key value : Tree) (es : Entries) (o p : Option Tree) (os : Option Entries) → IsShortBy key o → IsShortBy value p → AreShortEntriesBy es os
    → AreShortEntriesBy (entry key value es) (next_entry o p os)
next_entry_short key value es None p os h v m = tt
next_entry_short key value es (Some i) None os h v m = tt
next_entry_short key value es (Some i) (Some j) None h v m = tt
next_entry_short key value es (Some i) (Some j) (Some is) h v m = (
  ap suc m.0,
  λ k l.
      let behind = more_entries is k in
      let long = value_long i (58 ∷ text_of j behind) in
      let short : IsLength (length (text_of j behind)) = omega (arith, long, l) in
      (h (58 ∷ text_of j behind) (omega (arith, l)), v behind short, m.1 k (omega (arith, value_long j behind, short))),
)

mutual
  value_short : (t : Tree) → IsShortBy t (value_image t)
  value_short null = λ k h. tt
  value_short (truth b) = λ k h. tt
  value_short (int n) = λ k h. tt
  value_short (text s) = λ k h. omega (arith, escaped_long s (34 ∷ k), h)
  value_short (bytes s) = λ k h. omega (arith, numbers_count s, items_long (numbers s) k, more_items_long (numbers s) k, h)
  value_short (list ts) = list_short ts (trees_image ts) (items_short ts)
  value_short (map es) = map_short es (entries_image es) (entries_short es)

  items_short : (ts : Trees) → AreShortBy ts (trees_image ts)
  items_short no_trees = (refl, λ k h. tt)
  items_short (tree t ts) = next_short t ts (value_image t) (trees_image ts) (value_short t) (items_short ts)

  entries_short : (es : Entries) → AreShortEntriesBy es (entries_image es)
  entries_short no_entries = (refl, λ k h. tt)
  entries_short (entry key value es) = next_entry_short key value es (key_image key) (value_image value) (entries_image es) (key_short key) (value_short value) (entries_short es)

short_by : (t : Tree) (o : Option Tree) (s : List ℕ) → IsShortBy t o → option_map (λ i. text_of i []) o ≡ Some s → IsLength (length s) → IsShort t
short_by t None s h e l = cc
short_by t (Some i) s h e l =
    let same : text_of i [] ≡ s = cc in
    h [] (rw same l)

-- a tree is short where its text has fewer than 2^64 bytes
pub text_short : (t : Tree) (s : List ℕ) → json_text t ≡ Some s → IsLength (length s) → IsShort t
text_short t s e l = short_by t (value_image t) s (value_short t) e l
