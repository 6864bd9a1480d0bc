-- The one compact spelling of a tree in each version: a tag, and what follows it.
--
-- Each definition takes what follows the spelling as its last argument.
use Rattle.std.specs.Prelude.{ℕ, List, [], ◌∷◌, ◌++◌, pos, negsuc, true, false, length}
use Rattle.sw_tree.specs.Tree.{Tree, null, truth, int, text, bytes, list, map, items, pairs, Trees, no_trees, tree, Entries, no_entries, entry}
use Rattle.sw_compact.specs.Lengths.{length_bytes}
use Rattle.sw_compact.specs.Numbers.{counted}
use Rattle.sw_compact.specs.declared.version.Version.{Version}
use Rattle.sw_compact.specs.declared.version.Version.TheVariants.{One, Two}

abbrev mutual
  pub spelling : Version → Tree → List ℕ → List ℕ
  spelling v null rest = 0 ∷ rest
  spelling v (truth false) rest = 1 ∷ rest
  spelling v (truth true) rest = 2 ∷ rest
  spelling v (int (pos n)) rest = 3 ∷ counted n ++ rest
  -- the number -1 - n
  spelling v (int (negsuc n)) rest = 4 ∷ counted n ++ rest
  spelling v (text s) rest = 5 ∷ length_bytes v (length s) ++ s ++ rest
  spelling v (bytes s) rest = 6 ∷ length_bytes v (length s) ++ s ++ rest
  spelling v (list ts) rest = 7 ∷ length_bytes v (length (items ts)) ++ items_spelling v ts rest
  spelling v (map es) rest = 8 ∷ length_bytes v (length (pairs es)) ++ entries_spelling v es rest

  pub items_spelling : Version → Trees → List ℕ → List ℕ
  items_spelling v no_trees rest = rest
  items_spelling v (tree t ts) rest = spelling v t (items_spelling v ts rest)

  pub entries_spelling : Version → Entries → List ℕ → List ℕ
  entries_spelling v no_entries rest = rest
  entries_spelling v (entry key value es) rest = spelling v key (spelling v value (entries_spelling v es rest))

-- what stands in front of it: nothing, or the byte C2
abbrev pub mark : Version → List ℕ
mark One = []
mark Two = 194 ∷ []

-- the text of a tree
abbrev pub text_by : Version → Tree → List ℕ
text_by v t = mark v ++ spelling v t []
