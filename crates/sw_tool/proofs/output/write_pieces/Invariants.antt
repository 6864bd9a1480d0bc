use Rattle.std.proofs.Common.{ℕ, List, take, flat_map, Ok}
use Rattle.std.specs.Borrow.{Bor}
use Rattle.sw_tool.specs.Output.{Writes}
use Rattle.sw_tool.proofs.output.write_pieces.Given as goal

abbrev pub invariant-loop-piece : goal.invariant-loop-piece
invariant-loop-piece g l =
    Writes (Ok tt) (record { old = g.K.Sink.taken l.initial.sink; new = g.K.Sink.taken l.sink; before = g.K.Sink.faults l.initial.sink; after = g.K.Sink.faults l.sink }) (flat_map (λ (p : Bor (List ℕ)). p.now) (take l.piece-index l.pieces))
