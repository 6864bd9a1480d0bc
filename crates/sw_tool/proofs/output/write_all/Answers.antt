use Rattle.std.proofs.Common.{take, drop, Ok, arith}
use Rattle.std.proofs.lemmas.Grind.{common_steps}
use Rattle.std.proofs.Math.Seq.{take-add}
use Rattle.sw_tool.specs.Output.{Writes}
use Rattle.sw_tool.proofs.Gained.{change, writes_on}
use Rattle.sw_tool.proofs.output.write_all.Goals as goal

pub loop-done-preserved : goal.loop-done-preserved
loop-done-preserved g c =
    let done = c.loop-done.done in
    let piece = c.args.piece.now in
    let n = c.in-Ok.count in
    let cut = take-add done n piece in
    let w : Writes (Ok tt) (change (g.K.Sink.taken c.loop-done.sink) (g.K.Sink.taken c.write.new.self) (g.K.Sink.faults c.loop-done.sink) (g.K.Sink.faults c.write.new.self)) (take n (drop done piece)) =
    record { whole = grind (arith, common_steps); front = tt; fault = tt; counts = c.write.ensures.counts } in
    record {
      writes = rw cut (writes_on _ _ _ _ _ _ _ (take done piece) _ c.loop-done.invariant.writes w);
      within = grind (arith, common_steps);
    }
