-- A spelling, and what follows it.
use Rattle.std.proofs.Common.{◌≡◌, ◌≤◌, ℕ, List, [], ◌∷◌, ◌++◌, ap, sym, ◌∙◌, refl, append_assoc, true, false, pos, negsuc, length, suc, arith, length-append}
use Rattle.std.proofs.lemmas.List.{append-nil}
use Rattle.sw_tree.specs.Tree.{Tree, null, truth, int, text, bytes, list, map, Trees, no_trees, tree, items, Entries, no_entries, entry, pairs}
use Rattle.sw_compact.specs.Lengths.{length_bytes}
use Rattle.sw_compact.specs.Numbers.{counted}
use Rattle.sw_compact.specs.Spelling.{spelling, items_spelling, entries_spelling}
use Rattle.sw_compact.specs.declared.version.Version.{Version}

behind : (s rest : List ℕ) → s ++ rest ≡ (s ++ []) ++ rest
behind s rest = ap (λ x. x ++ rest) (sym (append-nil s))

mutual
  -- a spelling, and then what follows it
  pub spelling-rest : (v : Version) (t : Tree) (rest : List ℕ) → spelling v t rest ≡ spelling v t [] ++ rest
  spelling-rest v null rest = refl
  spelling-rest v (truth false) rest = refl
  spelling-rest v (truth true) rest = refl
  spelling-rest v (int (pos n)) rest = behind (3 ∷ counted n) rest
  spelling-rest v (int (negsuc n)) rest = behind (4 ∷ counted n) rest
  spelling-rest v (text s) rest = behind (5 ∷ length_bytes v (length s) ++ s) rest
  spelling-rest v (bytes s) rest = behind (6 ∷ length_bytes v (length s) ++ s) rest
  spelling-rest v (list ts) rest =
      let head = 7 ∷ length_bytes v (length (items ts)) in
      ap (λ x. head ++ x) (items_spelling-rest v ts rest) ∙ sym (append_assoc head (items_spelling v ts []) rest)
  spelling-rest v (map es) rest =
      let head = 8 ∷ length_bytes v (length (pairs es)) in
      ap (λ x. head ++ x) (entries_spelling-rest v es rest) ∙ sym (append_assoc head (entries_spelling v es []) rest)

  pub items_spelling-rest : (v : Version) (ts : Trees) (rest : List ℕ) → items_spelling v ts rest ≡ items_spelling v ts [] ++ rest
  items_spelling-rest v no_trees rest = refl
  items_spelling-rest v (tree t ts) rest =
      spelling-rest v t (items_spelling v ts rest)
      ∙ ap (λ x. spelling v t [] ++ x) (items_spelling-rest v ts rest)
      ∙ sym (append_assoc (spelling v t []) (items_spelling v ts []) rest)
      ∙ ap (λ x. x ++ rest) (sym (spelling-rest v t (items_spelling v ts [])))

  pub entries_spelling-rest : (v : Version) (es : Entries) (rest : List ℕ) → entries_spelling v es rest ≡ entries_spelling v es [] ++ rest
  entries_spelling-rest v no_entries rest = refl
  entries_spelling-rest v (entry key value es) rest =
      let two = λ (x : List ℕ). spelling v key (spelling v value x) in
      let one : (x : List ℕ) → two x ≡ (spelling v key [] ++ spelling v value []) ++ x
      = λ x. spelling-rest v key (spelling v value x)
      ∙ ap (λ y. spelling v key [] ++ y) (spelling-rest v value x)
      ∙ sym (append_assoc (spelling v key []) (spelling v value []) x) in
      one (entries_spelling v es rest)
      ∙ ap (λ x. (spelling v key [] ++ spelling v value []) ++ x) (entries_spelling-rest v es rest)
      ∙ sym (append_assoc (spelling v key [] ++ spelling v value []) (entries_spelling v es []) rest)
      ∙ ap (λ x. x ++ rest) (sym (one (entries_spelling v es [])))

-- ---- no spelling is empty
some_spelling : (v : Version) (t : Tree) → 1 ≤ length (spelling v t [])
some_spelling v null = omega arith
some_spelling v (truth false) = omega arith
some_spelling v (truth true) = omega arith
some_spelling v (int (pos n)) = omega arith
some_spelling v (int (negsuc n)) = omega arith
some_spelling v (text s) = omega arith
some_spelling v (bytes s) = omega arith
some_spelling v (list ts) = omega arith
some_spelling v (map es) = omega arith

pub spelling-longer : (v : Version) (t : Tree) (rest : List ℕ) → suc (length rest) ≤ length (spelling v t rest)
spelling-longer v t rest = omega (arith, ap length (spelling-rest v t rest), length-append (spelling v t []) rest, some_spelling v t)
