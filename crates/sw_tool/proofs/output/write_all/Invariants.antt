use Rattle.std.proofs.Common.{◌-◌, ◌≤◌, length, take, Ok}
use Rattle.sw_tool.specs.Output.{Writes}
use Rattle.sw_tool.proofs.output.write_all.Given as goal

abbrev pub invariant-loop-done : goal.invariant-loop-done
invariant-loop-done g l =
    record {
      writes : Writes (Ok tt) (record { old = g.K.Sink.taken l.initial.sink; new = g.K.Sink.taken l.sink; before = g.K.Sink.faults l.initial.sink; after = g.K.Sink.faults l.sink }) (take l.done l.piece);
      within : l.done ≤ length l.piece;
    }

abbrev pub decreases-loop-done : goal.decreases-loop-done
decreases-loop-done g l = length l.piece - l.done
