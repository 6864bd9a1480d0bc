-- The faults of a raw tree, in order of place, and the tree that a raw tree without faults is.
use Rattle.std.specs.Prelude.{ℕ, ℤ, List, ◌∷◌, Option, Some, None, nat_lt, if◌then◌else◌, suc, [], pos, Result, Ok, Err}
use Rattle.sw_tree.specs.Tree.{Tree, Trees, Entries}
use Rattle.sw_tree.specs.Tree as tree
use Rattle.sw_tree.specs.Raw.{Raw, RawItems, no_items, item, RawEntries, no_entries, entry}
use Rattle.sw_tree.specs.Raw as raw
use Rattle.sw_tree.specs.declared.fail.WireError.{WireError}
use Rattle.sw_tree.specs.declared.fail.WireError.TheVariants as wire

-- a number that isn't a whole one from -2^127 to 2^128 - 1
abbrev pub number_fault : ℕ → Option ℤ → List WireError → List WireError
number_fault at (Some n) rest = rest
number_fault at None rest = wire.NotWhole at ∷ rest

-- a node with a level of its own below so many levels, which may be the 129th
abbrev pub level_fault : ℕ → ℕ → List WireError → List WireError
level_fault depth at rest = if nat_lt depth 128 then rest else wire.TooDeep at ∷ rest

-- the faults of a raw tree that stands below so many levels, and then the rest
abbrev mutual
  pub faults : ℕ → Raw → List WireError → List WireError
  faults depth (raw.null at) rest = rest
  faults depth (raw.truth at b) rest = rest
  faults depth (raw.number at n) rest = number_fault at n rest
  faults depth (raw.text at s) rest = rest
  faults depth (raw.bytes at s) rest = level_fault depth at rest
  faults depth (raw.list at rs) rest = level_fault depth at (items_faults (suc depth) rs rest)
  faults depth (raw.map at es) rest = level_fault depth at (entries_faults (suc depth) es rest)

  pub items_faults : ℕ → RawItems → List WireError → List WireError
  items_faults depth no_items rest = rest
  items_faults depth (item r rs) rest = faults depth r (items_faults depth rs rest)

  pub entries_faults : ℕ → RawEntries → List WireError → List WireError
  entries_faults depth no_entries rest = rest
  entries_faults depth (entry key value es) rest = faults depth key (faults depth value (entries_faults depth es rest))

-- the first of them
abbrev pub first : List WireError → Option WireError
first [] = None
first (e ∷ es) = Some e

-- the number, which is 0 where there is none
abbrev pub int_of : Option ℤ → ℤ
int_of (Some n) = n
int_of None = pos 0

-- the tree, which a raw tree with faults has too, though no reader answers it
abbrev mutual
  pub whole : Raw → Tree
  whole (raw.null at) = tree.null
  whole (raw.truth at b) = tree.truth b
  whole (raw.number at n) = tree.int (int_of n)
  whole (raw.text at s) = tree.text s
  whole (raw.bytes at s) = tree.bytes s
  whole (raw.list at rs) = tree.list (wholes rs)
  whole (raw.map at es) = tree.map (whole_entries es)

  pub wholes : RawItems → Trees
  wholes no_items = tree.no_trees
  wholes (item r rs) = tree.tree (whole r) (wholes rs)

  pub whole_entries : RawEntries → Entries
  whole_entries no_entries = tree.no_entries
  whole_entries (entry key value es) = tree.entry (whole key) (whole value) (whole_entries es)

-- the tree, or the first fault
abbrev pub judged_by : List WireError → Tree → Result Tree WireError
judged_by [] t = Ok t
judged_by (e ∷ es) t = Err e

abbrev pub judged : Raw → Result Tree WireError
judged r = judged_by (faults 0 r []) (whole r)
