use Rattle.std.proofs.Common.{◌≡◌, ◌||◌, ◌+◌, ◌*◌, drop}
use Rattle.sw_tree.specs.Kinds.{has}
use Rattle.sw_tree.specs.declared.mode.Kind.{Kind}
use Rattle.sw_check.specs.Form.{forms, levels, most_levels}
use Rattle.sw_check.specs.Kinds.{any_reads}
use Rattle.sw_check.specs.Grade.{worst, worst_of}
use Rattle.sw_check.specs.Blame.{row_blame, blame}
use Rattle.sw_check.specs.Inner.Found.{FindsSoFar}
use Rattle.sw_check.proofs.checks.+inspect.Given as goal

abbrev pub invariant-row-loop-number : goal.invariant-row-loop-number
invariant-row-loop-number l =
    ((k : Kind) → (has l.row.read k || any_reads (forms (drop l.number l.parts)) l.mode k) ≡ any_reads (forms l.parts) l.mode k)
    × (worst l.row.grade (worst_of (forms (drop l.number l.parts)) l.mode) ≡ worst_of (forms l.parts) l.mode)
    × FindsSoFar l.initial.found l.found (row_blame blame (forms (drop l.number l.parts)) l.number l.mode) (row_blame blame (forms l.parts) 0 l.mode)

abbrev pub decreases-inspect : goal.decreases-inspect
decreases-inspect l = 5 * levels l.expr.now + 1

abbrev pub decreases-parts_of : goal.decreases-parts_of
decreases-parts_of l = 5 * levels l.expr.now

abbrev pub decreases-child : goal.decreases-child
decreases-child l = 5 * levels l.part.now + 2

abbrev pub decreases-row : goal.decreases-row
decreases-row l = 5 * most_levels (forms l.parts.now) + 3

abbrev pub decreases-read_by : goal.decreases-read_by
decreases-read_by l = 5 * most_levels (forms l.options.now) + 4
