-- A spelling stands apart from what follows it, and has a byte at least.
use Rattle.std.proofs.Common.{◌≡◌, ◌≤◌, ◌<◌, ◌+◌, ◌++◌, append_assoc, append-nil, ℕ, true, false, List, [], ◌∷◌, length, length-append, refl, ap, sym, ◌∙◌, arith}
use Rattle.std.specs.Prelude.{pos, negsuc}
use Rattle.sw_tree.specs.Tree.{Tree, null, truth, int, text, bytes, list, map, items, pairs, Trees, no_trees, tree, Entries, no_entries, entry}
use Rattle.sw_compact.specs.Lengths.{length_bytes}
use Rattle.sw_compact.specs.Numbers.{counted}
use Rattle.sw_compact.specs.Spelling.{spelling, items_spelling, entries_spelling}
use Rattle.sw_compact.specs.Located.{width}
use Rattle.sw_compact.specs.declared.version.Version.{Version}

ended : (front s k : List ℕ) → front ++ s ++ k ≡ (front ++ s ++ []) ++ k
ended front s k = ap (λ x. x ++ k) (sym (append-nil (front ++ s)))

mutual
  pub spelling_apart : (v : Version) (t : Tree) (k : List ℕ) → spelling v t k ≡ spelling v t [] ++ k
  spelling_apart v null k = refl
  spelling_apart v (truth false) k = refl
  spelling_apart v (truth true) k = refl
  spelling_apart v (int (pos n)) k = ap (λ x. x ++ k) (sym (append-nil (3 ∷ counted n)))
  spelling_apart v (int (negsuc n)) k = ap (λ x. x ++ k) (sym (append-nil (4 ∷ counted n)))
  spelling_apart v (text s) k = ended (5 ∷ length_bytes v (length s)) s k
  spelling_apart v (bytes s) k = ended (6 ∷ length_bytes v (length s)) s k
  spelling_apart v (list ts) k =
      ap (λ x. (7 ∷ length_bytes v (length (items ts))) ++ x) (items_apart v ts k) ∙ sym (append_assoc (7 ∷ length_bytes v (length (items ts))) (items_spelling v ts []) k)
  spelling_apart v (map es) k =
      ap (λ x. (8 ∷ length_bytes v (length (pairs es))) ++ x) (entries_apart v es k) ∙ sym (append_assoc (8 ∷ length_bytes v (length (pairs es))) (entries_spelling v es []) k)

  pub items_apart : (v : Version) (ts : Trees) (k : List ℕ) → items_spelling v ts k ≡ items_spelling v ts [] ++ k
  items_apart v no_trees k = refl
  items_apart v (tree t ts) k =
      spelling_apart v t (items_spelling v ts k) ∙ ap (λ x. spelling v t [] ++ x) (items_apart v ts k)
      ∙ sym (append_assoc (spelling v t []) (items_spelling v ts []) k) ∙ ap (λ x. x ++ k) (sym (spelling_apart v t (items_spelling v ts [])))

  pub entries_apart : (v : Version) (es : Entries) (k : List ℕ) → entries_spelling v es k ≡ entries_spelling v es [] ++ k
  entries_apart v no_entries k = refl
  entries_apart v (entry x t es) k =
      spelling_apart v x (spelling v t (entries_spelling v es k))
      ∙ ap (λ y. spelling v x [] ++ y) (spelling_apart v t (entries_spelling v es k) ∙ ap (λ y. spelling v t [] ++ y) (entries_apart v es k)
      ∙ sym (append_assoc (spelling v t []) (entries_spelling v es []) k) ∙ ap (λ y. y ++ k) (sym (spelling_apart v t (entries_spelling v es []))))
      ∙ sym (append_assoc (spelling v x []) (spelling v t (entries_spelling v es [])) k) ∙ ap (λ y. y ++ k) (sym (spelling_apart v x (spelling v t (entries_spelling v es []))))

pub width_some : (v : Version) (t : Tree) → 0 < width v t
width_some v null = omega arith
width_some v (truth false) = omega arith
width_some v (truth true) = omega arith
width_some v (int (pos n)) = omega arith
width_some v (int (negsuc n)) = omega arith
width_some v (text s) = omega arith
width_some v (bytes s) = omega arith
width_some v (list ts) = omega arith
width_some v (map es) = omega arith

pub length-spelling : (v : Version) (t : Tree) (k : List ℕ) → length (spelling v t k) ≡ width v t + length k
length-spelling v t k = ap length (spelling_apart v t k) ∙ length-append (spelling v t []) k

pub items_few : (v : Version) (ts : Trees) (k : List ℕ) → length (items ts) + length k ≤ length (items_spelling v ts k)
items_few v no_trees k = omega arith
items_few v (tree t ts) k = omega (arith, items_few v ts k, width_some v t, length-spelling v t (items_spelling v ts k))

pub entries_few : (v : Version) (es : Entries) (k : List ℕ) → length (pairs es) + length (pairs es) + length k ≤ length (entries_spelling v es k)
entries_few v no_entries k = omega arith
entries_few v (entry x t es) k =
    omega (arith, entries_few v es k, width_some v x, width_some v t, length-spelling v t (entries_spelling v es k), length-spelling v x (spelling v t (entries_spelling v es k)))
