-- The sheet that a document holds.
use Rattle.std.specs.Prelude.{ℕ, ◌≡◌, List}
use Rattle.std.specs.Arc.{arc_value}
use Rattle.sw_tree.specs.declared.sheet.Sheet.{Sheet}
use Rattle.sw_tree.specs.declared.held.Held.{Held}
use Rattle.sw_tree.specs.declared.held.Held.TheVariants.{Own, Shared}
use Rattle.sw_tree.specs.Inner.Cells.{Formed}
use Rattle.sw_tree.specs.Inner.Sheet.{sheet_store, sheet_tree}

-- its own, or the one that it shares
abbrev pub held_sheet : Held → Sheet
held_sheet (Own s) = s
held_sheet (Shared a) = arc_value a

-- what is held means the root's tree too
pub record IsHeld (input : List ℕ) (s : Sheet) (h : Held) : Type 0 where
  pub formed : Formed (sheet_store input (held_sheet h)) (held_sheet h).cells.items
  pub same : sheet_tree input (held_sheet h) ≡ sheet_tree input s
