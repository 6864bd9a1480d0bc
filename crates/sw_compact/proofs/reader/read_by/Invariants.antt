use Rattle.std.proofs.Common.{length}
use Rattle.std.specs.Prelude.{reverse}
use Rattle.sw_compact.proofs.Reading.{Reads}
use Rattle.sw_compact.proofs.reader.read_by.Given as goal

abbrev pub invariant-loop-head : goal.invariant-loop-head
invariant-loop-head l = Reads l.fn.version l.fn.bytes l.fn.body l.fault l.builder (reverse l.levels.items) l.rest

abbrev pub decreases-loop-head : goal.decreases-loop-head
decreases-loop-head l = length l.rest
