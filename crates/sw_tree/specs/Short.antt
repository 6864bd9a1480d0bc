-- Which trees have lengths that eight bytes can say: each text and byte string has fewer than 2^64 bytes, each list and map
-- fewer than 2^64 items or entries.
use Rattle.std.specs.Prelude.{ℕ, ◌<◌, ◌^◌, length}
use Rattle.sw_tree.specs.Tree.{Tree, null, truth, int, text, bytes, list, map, items, pairs, Trees, no_trees, tree, Entries, no_entries, entry}

abbrev pub IsLength : ℕ → Type 0
IsLength n = n < 2 ^ 64

abbrev mutual
  pub IsShort : Tree → Type 0
  IsShort null = Unit {0}
  IsShort (truth b) = Unit {0}
  IsShort (int n) = Unit {0}
  IsShort (text s) = IsLength (length s)
  IsShort (bytes s) = IsLength (length s)
  IsShort (list ts) = IsLength (length (items ts)) × AreShort ts
  IsShort (map es) = IsLength (length (pairs es)) × AreShortEntries es

  pub AreShort : Trees → Type 0
  AreShort no_trees = Unit {0}
  AreShort (tree t ts) = IsShort t × AreShort ts

  pub AreShortEntries : Entries → Type 0
  AreShortEntries no_entries = Unit {0}
  AreShortEntries (entry key value es) = IsShort key × IsShort value × AreShortEntries es
