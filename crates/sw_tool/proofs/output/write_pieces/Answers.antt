use Rattle.std.proofs.Common.{ℕ, ◌+◌, List, take, drop, flat_map, arith}
use Rattle.std.specs.Borrow.{Bor}
use Rattle.sw_tool.proofs.Gained.{writes_cut, flat_map_around}
use Rattle.sw_tool.proofs.output.write_pieces.Goals as goal

pub returns-in-Err : goal.returns-in-Err
returns-in-Err g c =
    let f = λ (p : Bor (List ℕ)). p.now in
    let i = c.loop-piece.piece-index in
    let pieces = c.args.pieces.now in
    writes_cut _ _ _ _ _ _ _ (flat_map f (take i pieces)) _ (flat_map f (drop (i + 1) pieces)) (flat_map f pieces) c.loop-piece.invariant c.in-Err.ensures (flat_map_around f pieces i _ (omega arith))
