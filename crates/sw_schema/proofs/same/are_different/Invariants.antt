use Rattle.std.proofs.Common.{◌≡◌, drop, List}
use Rattle.sw_tree.specs.Tree.{Tree, items_at}
use Rattle.std.specs.Prelude.{Some, option_map}
use Rattle.sw_schema.specs.Inner.Parts.{part_tree}
use Rattle.sw_schema.specs.Valid.{passes_items, are_different}
use Rattle.sw_schema.proofs.same.are_different.Given as goal

abbrev pub invariant-loop-index : goal.invariant-loop-index
invariant-loop-index l =
    (option_map (λ (ts : List Tree). drop l.index ts) (items_at (part_tree l.part)) ≡ Some l.items)
    × (passes_items are_different (part_tree l.part) ≡ are_different l.items)
