use Rattle.std.proofs.Common.{◌≡◌}
use Rattle.sw_tree.specs.Logged.{HasGained}
use Rattle.sw_core.specs.Fields.{no_slots}
use Rattle.sw_core.specs.Inner.Record.{all_reads, all_logs}
use Rattle.sw_core.proofs.record.read_values.Given as goal

abbrev pub invariant-loop-key : goal.invariant-loop-key
invariant-loop-key g l =
    let strict = g.R.Fields.strict in
    let known = g.R.Fields.known in
    let slots = g.R.Fields.slots l.fields in
    record {
      answer : all_reads strict known l.mode (no_slots known) l.fn.entries ≡ all_reads strict known l.mode slots l.key-iterator;
      logs : HasGained l.fn.log l.log (all_logs strict known l.mode (no_slots known) l.fn.entries) (all_logs strict known l.mode slots l.key-iterator);
    }
