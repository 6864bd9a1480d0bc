use Rattle.std.proofs.Common.{◌≡◌, take, map}
use Rattle.sw_tree.specs.Inner.Moved.{moved}
use Rattle.sw_tree.proofs.part.moved_cells.Given as goal

abbrev pub invariant-loop-cell : goal.invariant-loop-cell
invariant-loop-cell l = l.copied.items ≡ map (moved l.reach) (take l.cell-index l.cells)
