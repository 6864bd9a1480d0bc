-- Which trees are images in JSON: there is no byte string, and each key is a text; and which have no image.
use Rattle.std.specs.Prelude.{◌⊎◌}
use Rattle.std.specs.Str.{IsUtf8}
use Rattle.sw_tree.specs.Tree.{Tree, text, null, truth, int, bytes, list, map, Trees, no_trees, tree, Entries, no_entries, entry}
use Rattle.sw_tree.specs.Number.{IsInRange}

-- a text that is UTF-8
abbrev pub IsKey : Tree → Type 0
IsKey (text s) = IsUtf8 s
IsKey _ = ⊥

-- Numbers are within range, texts are UTF-8, there is no byte string, keys are texts, and so it is in lists and maps.
abbrev mutual
  pub IsImage : Tree → Type 0
  IsImage null = Unit {0}
  IsImage (truth b) = Unit {0}
  IsImage (int n) = IsInRange n
  IsImage (text s) = IsUtf8 s
  IsImage (bytes s) = ⊥
  IsImage (list ts) = AreImages ts
  IsImage (map es) = AreImageEntries es

  pub AreImages : Trees → Type 0
  AreImages no_trees = Unit {0}
  AreImages (tree t ts) = IsImage t × AreImages ts

  pub AreImageEntries : Entries → Type 0
  AreImageEntries no_entries = Unit {0}
  AreImageEntries (entry key value es) = IsKey key × IsImage value × AreImageEntries es

-- a key of a kind that JSON has no image of: null, a byte string, a list or a map
abbrev pub IsOtherKey : Tree → Type 0
IsOtherKey null = Unit {0}
IsOtherKey (truth b) = ⊥
IsOtherKey (int n) = ⊥
IsOtherKey (text s) = ⊥
IsOtherKey (bytes s) = Unit {0}
IsOtherKey (list ts) = Unit {0}
IsOtherKey (map es) = Unit {0}

-- some key of a map in the tree is of such a kind
abbrev mutual
  pub HasOtherKey : Tree → Type 0
  HasOtherKey null = ⊥
  HasOtherKey (truth b) = ⊥
  HasOtherKey (int n) = ⊥
  HasOtherKey (text s) = ⊥
  HasOtherKey (bytes s) = ⊥
  HasOtherKey (list ts) = HaveOtherKey ts
  HasOtherKey (map es) = EntriesHaveOtherKey es

  pub HaveOtherKey : Trees → Type 0
  HaveOtherKey no_trees = ⊥
  HaveOtherKey (tree t ts) = HasOtherKey t ⊎ HaveOtherKey ts

  pub EntriesHaveOtherKey : Entries → Type 0
  EntriesHaveOtherKey no_entries = ⊥
  EntriesHaveOtherKey (entry key value es) = IsOtherKey key ⊎ (HasOtherKey value ⊎ EntriesHaveOtherKey es)
