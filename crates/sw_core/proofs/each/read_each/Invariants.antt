use Rattle.std.proofs.Common.{◌≡◌, map}
use Rattle.sw_tree.specs.Logged.{HasGained}
use Rattle.sw_core.specs.Inner.Rows.{seen_reads, seen_logs}
use Rattle.sw_core.specs.Rows.{reader, each_by}
use Rattle.sw_core.proofs.Rows.{prefixed}
use Rattle.sw_core.proofs.each.read_each.Given as goal

abbrev pub invariant-loop-item : goal.invariant-loop-item
invariant-loop-item g l =
    let r = reader g.A.DeserializeAs.reads g.A.DeserializeAs.spot g.A.DeserializeAs.skips l.mode in
    let all = l.fn.items in
    let rest = l.item-iterator in
    record {
      answer : seen_reads (each_by r all) all ≡ prefixed (map g.T.Named.meaning l.values.items) (seen_reads (each_by r rest) rest);
      logs : HasGained l.fn.log l.log (seen_logs (each_by r all) all) (seen_logs (each_by r rest) rest);
    }
