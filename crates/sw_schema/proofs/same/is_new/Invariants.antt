use Rattle.std.proofs.Common.{◌≡◌}
use Rattle.sw_schema.specs.Inner.Parts.{part_tree}
use Rattle.sw_schema.specs.Valid.{is_new}
use Rattle.sw_schema.proofs.same.is_new.Given as goal

abbrev pub invariant-loop-other : goal.invariant-loop-other
invariant-loop-other l = is_new (part_tree l.item) l.fn.others ≡ is_new (part_tree l.item) l.other-iterator
