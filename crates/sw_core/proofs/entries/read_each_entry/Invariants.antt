use Rattle.std.proofs.Common.{◌≡◌}
use Rattle.sw_tree.specs.Mode.{at_key, at_value}
use Rattle.sw_tree.specs.Logged.{HasGained}
use Rattle.sw_core.specs.Inner.Rows.{seen_reads, seen_logs, seen_turns, all_both}
use Rattle.sw_core.specs.Rows.{reader, turns_by}
use Rattle.sw_core.proofs.Rows.{prefixed}
use Rattle.sw_core.proofs.entries.read_each_entry.Given as goal

abbrev pub invariant-loop-key : goal.invariant-loop-key
invariant-loop-key g l =
    let key = reader g.K.DeserializeAs.reads g.K.DeserializeAs.spot g.K.DeserializeAs.skips (at_key l.mode) in
    let value = reader g.V.DeserializeAs.reads g.V.DeserializeAs.spot g.V.DeserializeAs.skips (at_value l.mode) in
    let all = l.fn.entries in
    let rest = l.key-iterator in
    record {
      answer : seen_reads (turns_by key value all) (seen_turns all) ≡ prefixed (all_both g.T.Named.meaning g.U.Named.meaning l.pairs.items) (seen_reads (turns_by key value rest) (seen_turns rest));
      logs : HasGained l.fn.log l.log (seen_logs (turns_by key value all) (seen_turns all)) (seen_logs (turns_by key value rest) (seen_turns rest));
    }
