-- The raw tree of a tree that is spelled from an offset on.
use Rattle.std.specs.Prelude.{ℕ, [], ◌+◌, suc, length, Some}
use Rattle.sw_tree.specs.Tree.{Tree, null, truth, int, text, bytes, list, map, items, pairs, Trees, no_trees, tree, Entries, no_entries, entry}
use Rattle.sw_tree.specs.Raw.{Raw, RawItems, no_items, item, RawEntries}
use Rattle.sw_tree.specs.Raw as raw
use Rattle.sw_compact.specs.Lengths.{length_bytes}
use Rattle.sw_compact.specs.Spelling.{spelling}
use Rattle.sw_compact.specs.declared.version.Version.{Version}

-- how many bytes the spelling of a tree has
abbrev pub width : Version → Tree → ℕ
width v t = length (spelling v t [])

abbrev mutual
  pub located : Version → ℕ → Tree → Raw
  located v at null = raw.null at
  located v at (truth b) = raw.truth at b
  located v at (int n) = raw.number at (Some n)
  located v at (text s) = raw.text at s
  located v at (bytes s) = raw.bytes at s
  -- the parts stand behind the tag and the count
  located v at (list ts) = raw.list at (items_located v (suc at + length (length_bytes v (length (items ts)))) ts)
  located v at (map es) = raw.map at (entries_located v (suc at + length (length_bytes v (length (pairs es)))) es)

  pub items_located : Version → ℕ → Trees → RawItems
  items_located v at no_trees = no_items
  items_located v at (tree t ts) = item (located v at t) (items_located v (at + width v t) ts)

  pub entries_located : Version → ℕ → Entries → RawEntries
  entries_located v at no_entries = raw.no_entries
  entries_located v at (entry key value es) =
      raw.entry (located v at key) (located v (at + width v key) value) (entries_located v (at + width v key + width v value) es)
