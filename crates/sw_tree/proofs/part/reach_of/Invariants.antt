use Rattle.std.proofs.Common.{◌≡◌, drop}
use Rattle.sw_tree.specs.Inner.Moved.{reach_from}
use Rattle.sw_tree.proofs.part.reach_of.Given as goal

abbrev pub invariant-loop-cell : goal.invariant-loop-cell
invariant-loop-cell l = reach_from l.reach (drop l.cell-index l.cells) ≡ reach_from l.initial.reach l.cells
