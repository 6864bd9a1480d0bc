use Rattle.std.proofs.Common.{◌≡◌, ◌++◌, take, refl, arith}
use Rattle.std.proofs.lemmas.Grind.{common_steps}
use Rattle.sw_tool.proofs.Came.{came_on}
use Rattle.sw_tool.proofs.input.read_all.Goals as goal

pub loop-bytes-preserved : goal.loop-bytes-preserved
loop-bytes-preserved g c =
    let more = take c.in-Ok-read.count c.read.new.buf in
    let e : c.extend_from_slice.new.self.items ≡ c.loop-bytes.bytes.items ++ more = grind (arith, common_steps) in
    record {
      came = came_on c.loop-bytes.bytes.items more _ _ _ _ c.loop-bytes.invariant.came c.in-Ok-read.ensures.given e;
      counts = grind (arith, common_steps);
      chunk = grind (arith, common_steps);
      within = grind (arith, common_steps);
    }

pub returns-then-is_err : goal.returns-then-is_err
returns-then-is_err g c =
    let more = take c.in-Ok-read.count c.read.new.buf in
    record {
      gave = c.loop-bytes.bytes.items ++ more;
      came = came_on c.loop-bytes.bytes.items more _ _ _ _ c.loop-bytes.invariant.came c.in-Ok-read.ensures.given refl;
      counts = grind (arith, common_steps);
      holds = grind (arith, common_steps);
    }

pub returns-then-count-room : goal.returns-then-count-room
returns-then-count-room g c =
    let more = take c.in-Ok-read.count c.read.new.buf in
    record {
      gave = c.loop-bytes.bytes.items ++ more;
      came = came_on c.loop-bytes.bytes.items more _ _ _ _ c.loop-bytes.invariant.came c.in-Ok-read.ensures.given refl;
      counts = grind (arith, common_steps);
      holds = grind (arith, common_steps);
    }
