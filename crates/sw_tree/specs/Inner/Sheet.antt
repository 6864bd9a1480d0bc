-- What the cells of a document mean, over an input.
use Rattle.std.specs.Prelude.{ℕ, List}
use Rattle.sw_tree.specs.Tree.{Tree}
use Rattle.sw_tree.specs.declared.sheet.Sheet.{Sheet}
use Rattle.sw_tree.specs.Inner.Cells.{Store, forest, first}

abbrev pub sheet_store : List ℕ → Sheet → Store
sheet_store input s = record { input = input; side = s.side.items; wides = s.wides.items }

-- the root's tree
abbrev pub sheet_tree : List ℕ → Sheet → Tree
sheet_tree input s = first (forest (sheet_store input s) s.cells.items)
