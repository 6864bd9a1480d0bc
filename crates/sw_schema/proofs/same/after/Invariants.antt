use Rattle.std.proofs.Common.{◌≡◌, ◌-◌, drop}
use Rattle.sw_schema.proofs.same.after.Given as goal

abbrev pub invariant-loop-index : goal.invariant-loop-index
invariant-loop-index l = drop (l.count - l._index) l.items ≡ drop l.count l.fn.items
