use Rattle.std.proofs.Common.{◌≡◌, [], ◌∷◌, ◌++◌}
use Rattle.sw_tree.specs.Mode.{at_key, at_value}
use Rattle.sw_tree.specs.Seen.{Seen}
use Rattle.sw_tree.specs.Inner.View.{seen}
use Rattle.sw_core.specs.Inner.Rows.{seen_reads, seen_logs, seen_turns, both, all_both}
use Rattle.sw_core.specs.Rows.{reader, turns_by}
use Rattle.sw_core.proofs.Rows.{entry_read, entry_gained, entry_cut, entry_behind, all_both-push}
use Rattle.sw_core.proofs.entries.read_each_entry.Goals as goal

pub returns-in-Err-Memory-clause-logs : goal.returns-in-Err-Memory-clause-logs
returns-in-Err-Memory-clause-logs g c =
    let key = reader g.K.DeserializeAs.reads g.K.DeserializeAs.spot g.K.DeserializeAs.skips (at_key c.args.mode) in
    let value = reader g.V.DeserializeAs.reads g.V.DeserializeAs.spot g.V.DeserializeAs.skips (at_value c.args.mode) in
    let all = c.args.entries in
    entry_cut key value c.loop-key.key-iterator (seen c.in-Some.key, seen c.in-Some.value) c.next.new.self c.in-Some.ensures.steps c.args.log.now c.loop-key.log c.read_entry.new.log
    (seen_logs (turns_by key value all) (seen_turns all)) c.loop-key.invariant.logs (rw c.in-Err-Memory.field-0-is at c.in-Err-Memory.ensures.logs)

pub returns-then-is_err-clause-logs : goal.returns-then-is_err-clause-logs
returns-then-is_err-clause-logs g c =
    let key = reader g.K.DeserializeAs.reads g.K.DeserializeAs.spot g.K.DeserializeAs.skips (at_key c.args.mode) in
    let value = reader g.V.DeserializeAs.reads g.V.DeserializeAs.spot g.V.DeserializeAs.skips (at_value c.args.mode) in
    let all = c.args.entries in
    entry_behind key value c.loop-key.key-iterator (seen c.in-Some.key, seen c.in-Some.value) c.next.new.self c.in-Some.ensures.steps c.args.log.now c.loop-key.log c.read_entry.new.log
    (seen_logs (turns_by key value all) (seen_turns all)) c.loop-key.invariant.logs c.in-Ok-read_entry.ensures.logs

pub loop-key-preserved : goal.loop-key-preserved
loop-key-preserved g c =
    let key = reader g.K.DeserializeAs.reads g.K.DeserializeAs.spot g.K.DeserializeAs.skips (at_key c.args.mode) in
    let value = reader g.V.DeserializeAs.reads g.V.DeserializeAs.spot g.V.DeserializeAs.skips (at_value c.args.mode) in
    let all = c.args.entries in
    let entry : Seen × Seen = (seen c.in-Some.key, seen c.in-Some.value) in
    let f = g.T.Named.meaning in
    let h = g.U.Named.meaning in
    let pairs = c.loop-key.pairs.items in
    let pair = c.in-Ok-read_entry.pair in
    let pushed : c.push.new.self.items ≡ pairs ++ pair ∷ [] = rw c.if-is_err.ensures.negation at c.push.ensures.items in
    record {
      answer =
          entry_read key value c.loop-key.key-iterator entry c.next.new.self c.in-Some.ensures.steps (seen_reads (turns_by key value all) (seen_turns all)) (all_both f h pairs) (both f h pair)
          (all_both f h c.push.new.self.items) c.loop-key.invariant.answer c.in-Ok-read_entry.ensures.answer (rw pushed (all_both-push f h pairs pair));
      logs =
          entry_gained key value c.loop-key.key-iterator entry c.next.new.self c.in-Some.ensures.steps c.args.log.now c.loop-key.log c.read_entry.new.log (seen_logs (turns_by key value all) (seen_turns all))
          c.loop-key.invariant.logs (both f h pair) c.in-Ok-read_entry.ensures.answer c.in-Ok-read_entry.ensures.logs;
    }
