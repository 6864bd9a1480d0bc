-- That a document holds a sheet has one proof at most.
use Rattle.std.specs.Prelude.{◌≡◌, ℕ, List}
use base.Stored.{Coded-set}
use Rattle.std.proofs.Props.{props}
use Rattle.sw_tree.specs.Tree.{Tree}
use Rattle.sw_tree.specs.declared.sheet.Sheet.{Sheet}
use Rattle.sw_tree.specs.declared.held.Held.{Held}
use Rattle.sw_tree.specs.Inner.Held.{held_sheet, IsHeld}
use Rattle.sw_tree.specs.Inner.Sheet.{sheet_store}
use Rattle.sw_tree.specs.Inner.TreeCode.{coded_tree}
use Rattle.sw_tree.specs.Laws.Formed.{Formed-prop}

trees_set : (t u : Tree) → IsProp (t ≡ u)
trees_set t u = Coded-set coded_tree t u

pub IsHeld-prop : (input : List ℕ) (s : Sheet) (h : Held) → IsProp (IsHeld input s h)
IsHeld-prop input s h = let formed = Formed-prop (sheet_store input (held_sheet h)) (held_sheet h).cells.items in hlevel (props, formed, trees_set)
