-- What a finished writer answers: the text of the tree that was put in, which is short.
use Rattle.std.proofs.Common.{◌≡◌, ◌≤◌, ◌<◌, ◌^◌, ℕ, List, [], ◌∷◌, ◌++◌, ap, sym, ◌∙◌, length, drop, arith, length-append}
use Rattle.sw_tree.specs.Short.{IsLength, IsShort, AreShort, AreShortEntries}
use Rattle.sw_tree.specs.Tree.{Tree, null, truth, int, text, bytes, list, map, Trees, no_trees, tree, items, Entries, no_entries, entry, pairs}
use Rattle.sw_compact.specs.Lengths.{length_bytes}
use Rattle.sw_compact.specs.Spelling.{spelling, items_spelling, entries_spelling, mark, text_by}
use Rattle.sw_compact.specs.Laws.Spelled.{spelling-longer}
use Rattle.sw_compact.specs.Inner.Written.{Written, shown, AreLaid, put, fresh}
use Rattle.sw_compact.specs.declared.version.Version.{Version}
use Rattle.sw_compact.specs.declared.writer.Open.{Open}

-- ---- the text
pub text_put : (u v : Version) (b : List ℕ) (o : Open) (os : List Open) (t : Tree) → AreLaid u b o os → shown u b o os ≡ put t (fresh v) → text_by v t ≡ b
text_put u v b o [] t h e = sym (ap (λ (w : Written). w.top.bytes) e) ∙ ap (λ n. drop n b) h.start_is
text_put u v b o (p ∷ os) t h e = let k = ap (λ (w : Written). w.outer) e in absurd (cc k)

-- ---- its tree is short
within_head : (head s rest : List ℕ) → length ((head ++ s) ++ rest) < 2 ^ 64 → IsLength (length s)
within_head head s rest h = omega (arith, length-append (head ++ s) rest, length-append head s)

behind_head : (head rest : List ℕ) → length (head ++ rest) < 2 ^ 64 → length rest < 2 ^ 64
behind_head head rest h = omega (arith, length-append head rest)

-- each part has a byte at least
items_within : (v : Version) (ts : Trees) (rest : List ℕ) → length (items ts) ≤ length (items_spelling v ts rest)
items_within v no_trees rest = omega arith
items_within v (tree t ts) rest = omega (arith, items_within v ts rest, spelling-longer v t (items_spelling v ts rest))

pairs_within : (v : Version) (es : Entries) (rest : List ℕ) → length (pairs es) ≤ length (entries_spelling v es rest)
pairs_within v no_entries rest = omega arith
pairs_within v (entry key value es) rest =
    omega (arith, pairs_within v es rest, spelling-longer v value (entries_spelling v es rest), spelling-longer v key (spelling v value (entries_spelling v es rest)))

mutual
  short : (v : Version) (t : Tree) (rest : List ℕ) → length (spelling v t rest) < 2 ^ 64 → IsShort t
  short v null rest h = tt
  short v (truth b) rest h = tt
  short v (int n) rest h = tt
  short v (text s) rest h = within_head (5 ∷ length_bytes v (length s)) s rest h
  short v (bytes s) rest h = within_head (6 ∷ length_bytes v (length s)) s rest h
  short v (list ts) rest h =
      let k = behind_head (7 ∷ length_bytes v (length (items ts))) (items_spelling v ts rest) h in
      (omega (arith, items_within v ts rest), short_items v ts rest k)
  short v (map es) rest h =
      let k = behind_head (8 ∷ length_bytes v (length (pairs es))) (entries_spelling v es rest) h in
      (omega (arith, pairs_within v es rest), short_entries v es rest k)

  short_items : (v : Version) (ts : Trees) (rest : List ℕ) → length (items_spelling v ts rest) < 2 ^ 64 → AreShort ts
  short_items v no_trees rest h = tt
  short_items v (tree t ts) rest h =
      let k : length (items_spelling v ts rest) < 2 ^ 64 = omega (arith, spelling-longer v t (items_spelling v ts rest)) in
      (short v t (items_spelling v ts rest) h, short_items v ts rest k)

  short_entries : (v : Version) (es : Entries) (rest : List ℕ) → length (entries_spelling v es rest) < 2 ^ 64 → AreShortEntries es
  short_entries v no_entries rest h = tt
  short_entries v (entry key value es) rest h =
      let behind_value = entries_spelling v es rest in
      let behind_key = spelling v value behind_value in
      let k : length behind_key < 2 ^ 64 = omega (arith, spelling-longer v key behind_key) in
      let l : length behind_value < 2 ^ 64 = omega (arith, k, spelling-longer v value behind_value) in
      (short v key behind_key h, short v value behind_value k, short_entries v es rest l)

pub text_short : (v : Version) (t : Tree) (b : List ℕ) → text_by v t ≡ b → length b < 2 ^ 63 → IsShort t
text_short v t b e h = short v t [] (omega (arith, ap length e, length-append (mark v) (spelling v t [])))
