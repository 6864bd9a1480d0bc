use Rattle.std.proofs.Common.{◌≡◌, ◌+◌, take, drop, Some, ap, arith}
use Rattle.std.proofs.lemmas.Grind.{common_steps}
use Rattle.sw_tool.proofs.Came.{front_and_rest}
use Rattle.sw_tool.proofs.memory.SureSourceSource.read.Goals as goal

pub returns-clause-given : goal.returns-clause-given
returns-clause-given c =
    let n = c.give-count.result in
    let left = c.args.self.now in
    let e : take n c.give-count.new.buf ≡ take n left = grind (arith, common_steps) in
    let f : drop (c.self.inside.at + n) c.self.inside.bytes.items ≡ drop n left = grind (arith, common_steps) in
    ap Some (front_and_rest n left _ _ e f)
