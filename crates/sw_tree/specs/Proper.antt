-- Which trees a node can be.
use Rattle.std.specs.Prelude.{◌<◌, ◌≤◌}
use Rattle.std.specs.Str.{IsUtf8}
use Rattle.sw_tree.specs.Steps.{Each}
use Rattle.sw_tree.specs.Tree.{Tree, null, truth, int, text, bytes, list, map, Trees, no_trees, tree, Entries, no_entries, entry, depth}
use Rattle.sw_tree.specs.Number.{IsInRange}

-- Numbers are within range, texts are UTF-8, the bytes of byte strings are below 256, and so it is in lists and maps.
abbrev mutual
  pub IsProper : Tree → Type 0
  IsProper null = Unit {0}
  IsProper (truth b) = Unit {0}
  IsProper (int n) = IsInRange n
  IsProper (text s) = IsUtf8 s
  IsProper (bytes s) = Each (λ b. b < 256) s
  IsProper (list ts) = AreProper ts
  IsProper (map es) = AreProperEntries es

  pub AreProper : Trees → Type 0
  AreProper no_trees = Unit {0}
  AreProper (tree t ts) = IsProper t × AreProper ts

  pub AreProperEntries : Entries → Type 0
  AreProperEntries no_entries = Unit {0}
  AreProperEntries (entry key value es) = IsProper key × IsProper value × AreProperEntries es

-- a tree that a node can be, its lengths aside: a proper one of at most 128 levels
pub record IsNodeTree (t : Tree) : Type 0 where
  pub proper : IsProper t
  pub shallow : depth t ≤ 128
