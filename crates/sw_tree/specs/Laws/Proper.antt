-- That a tree is proper has one proof at most.
use Rattle.std.specs.Prelude.{ℤ, pos, negsuc, ℕ, ◌<◌, List, [], ◌∷◌}
use Rattle.std.specs.Coded.{×_prop, Unit-prop}
use Rattle.std.proofs.Props.{props}
use Rattle.sw_tree.specs.Steps.{Each}
use Rattle.sw_tree.specs.Tree.{Tree, null, truth, int, text, bytes, list, map, Trees, no_trees, tree, Entries, no_entries, entry}
use Rattle.sw_tree.specs.Proper.{IsProper, AreProper, AreProperEntries, IsNodeTree}
use Rattle.sw_tree.specs.Number.{IsInRange}

IsInRange-prop : (z : ℤ) → IsProp (IsInRange z)
IsInRange-prop (pos n) = hlevel props
IsInRange-prop (negsuc n) = hlevel props

bytes_prop : (s : List ℕ) → IsProp (Each (λ b. b < 256) s)
bytes_prop [] = Unit-prop
bytes_prop (b ∷ bs) = let here : IsProp (b < 256) = hlevel props in ×_prop here (bytes_prop bs)

mutual
  pub IsProper-prop : (t : Tree) → IsProp (IsProper t)
  IsProper-prop null = Unit-prop
  IsProper-prop (truth b) = Unit-prop
  IsProper-prop (int n) = IsInRange-prop n
  IsProper-prop (text s) = hlevel props
  IsProper-prop (bytes s) = bytes_prop s
  IsProper-prop (list ts) = AreProper-prop ts
  IsProper-prop (map es) = AreProperEntries-prop es

  AreProper-prop : (ts : Trees) → IsProp (AreProper ts)
  AreProper-prop no_trees = Unit-prop
  AreProper-prop (tree t ts) = ×_prop (IsProper-prop t) (AreProper-prop ts)

  AreProperEntries-prop : (es : Entries) → IsProp (AreProperEntries es)
  AreProperEntries-prop no_entries = Unit-prop
  AreProperEntries-prop (entry key value es) = λ a b. λ i. (IsProper-prop key a.0 b.0 i, IsProper-prop value a.1 b.1 i, AreProperEntries-prop es a.2 b.2 i)

pub IsNodeTree-prop : (t : Tree) → IsProp (IsNodeTree t)
IsNodeTree-prop t = let proper = IsProper-prop t in hlevel (props, proper)
