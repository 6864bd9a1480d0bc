use Rattle.std.proofs.Common.{arith, replicate}
use Rattle.std.proofs.lemmas.List.{length-replicate}
use Rattle.sw_tree.specs.Inner.View.{seen}
use Rattle.sw_tree.specs.Mode.{at_key, at_value}
use Rattle.sw_core.specs.Rows.{reader}
use Rattle.sw_core.proofs.EntryFilling.{start, short, full, refused, refused_logs, cut, next}
use Rattle.sw_core.proofs.entry_array.fill_in_turn.Goals as goal

pub loop-index-init : goal.loop-index-init
loop-index-init g c =
    let key = reader g.K.DeserializeAs.reads g.K.DeserializeAs.spot g.K.DeserializeAs.skips (at_key c.args.mode) in
    let value = reader g.V.DeserializeAs.reads g.V.DeserializeAs.spot g.V.DeserializeAs.skips (at_value c.args.mode) in
    start g.T.Named.meaning g.U.Named.meaning key value g.row.N c.args.entries c.args.log.now (replicate g.row.N (c.default.result, c.default-2.result)) (length-replicate g.row.N (c.default.result, c.default-2.result))

pub returns-in_default-clause-answer : goal.returns-in_default-clause-answer
returns-in_default-clause-answer g c =
    let key = reader g.K.DeserializeAs.reads g.K.DeserializeAs.spot g.K.DeserializeAs.skips (at_key c.args.mode) in
    let value = reader g.V.DeserializeAs.reads g.V.DeserializeAs.spot g.V.DeserializeAs.skips (at_value c.args.mode) in
    (short g.T.Named.meaning g.U.Named.meaning key value g.row.N c.args.entries c.args.log.now c.loop-index.index c.loop-index.pairs c.loop-index.entries c.loop-index.log c.loop-index.invariant c.in_default.ensures.steps.0).0

pub returns-in_default-clause-logs : goal.returns-in_default-clause-logs
returns-in_default-clause-logs g c =
    let key = reader g.K.DeserializeAs.reads g.K.DeserializeAs.spot g.K.DeserializeAs.skips (at_key c.args.mode) in
    let value = reader g.V.DeserializeAs.reads g.V.DeserializeAs.spot g.V.DeserializeAs.skips (at_value c.args.mode) in
    (short g.T.Named.meaning g.U.Named.meaning key value g.row.N c.args.entries c.args.log.now c.loop-index.index c.loop-index.pairs c.loop-index.entries c.loop-index.log c.loop-index.invariant c.in_default.ensures.steps.0).1

pub returns-in-Err-Refused-clause-answer : goal.returns-in-Err-Refused-clause-answer
returns-in-Err-Refused-clause-answer g c =
    let key = reader g.K.DeserializeAs.reads g.K.DeserializeAs.spot g.K.DeserializeAs.skips (at_key c.args.mode) in
    let value = reader g.V.DeserializeAs.reads g.V.DeserializeAs.spot g.V.DeserializeAs.skips (at_value c.args.mode) in
    rw c.in-Err-Refused.field-0-is (refused g.T.Named.meaning g.U.Named.meaning key value g.row.N c.args.entries c.args.log.now c.loop-index.index c.loop-index.pairs c.loop-index.entries c.loop-index.log c.loop-index.invariant c.loop-index-test.true (seen c.in-Some.key, seen c.in-Some.value) c.next.new.self c.in-Some.ensures.steps c.in-Err-Refused.refusal (rw c.in-Err-Refused.field-0-is at c.in-Err-Refused.ensures.answer))

pub returns-in-Err-Refused-clause-logs : goal.returns-in-Err-Refused-clause-logs
returns-in-Err-Refused-clause-logs g c =
    let key = reader g.K.DeserializeAs.reads g.K.DeserializeAs.spot g.K.DeserializeAs.skips (at_key c.args.mode) in
    let value = reader g.V.DeserializeAs.reads g.V.DeserializeAs.spot g.V.DeserializeAs.skips (at_value c.args.mode) in
    refused_logs g.T.Named.meaning g.U.Named.meaning key value g.row.N c.args.entries c.args.log.now c.loop-index.index c.loop-index.pairs c.loop-index.entries c.loop-index.log c.loop-index.invariant c.loop-index-test.true (seen c.in-Some.key, seen c.in-Some.value) c.next.new.self c.in-Some.ensures.steps c.in-Err-Refused.refusal c.read_entry.new.log (rw c.in-Err-Refused.field-0-is at c.in-Err-Refused.ensures.answer) (rw c.in-Err-Refused.field-0-is at c.in-Err-Refused.ensures.logs)

pub returns-in-Err-Memory-clause-logs : goal.returns-in-Err-Memory-clause-logs
returns-in-Err-Memory-clause-logs g c =
    let key = reader g.K.DeserializeAs.reads g.K.DeserializeAs.spot g.K.DeserializeAs.skips (at_key c.args.mode) in
    let value = reader g.V.DeserializeAs.reads g.V.DeserializeAs.spot g.V.DeserializeAs.skips (at_value c.args.mode) in
    cut g.T.Named.meaning g.U.Named.meaning key value g.row.N c.args.entries c.args.log.now c.loop-index.index c.loop-index.pairs c.loop-index.entries c.loop-index.log c.loop-index.invariant c.loop-index-test.true (seen c.in-Some.key, seen c.in-Some.value) c.next.new.self c.in-Some.ensures.steps c.read_entry.new.log (rw c.in-Err-Memory.field-0-is at c.in-Err-Memory.ensures.logs)

pub loop-index-preserved : goal.loop-index-preserved
loop-index-preserved g c =
    let key = reader g.K.DeserializeAs.reads g.K.DeserializeAs.spot g.K.DeserializeAs.skips (at_key c.args.mode) in
    let value = reader g.V.DeserializeAs.reads g.V.DeserializeAs.spot g.V.DeserializeAs.skips (at_value c.args.mode) in
    next g.T.Named.meaning g.U.Named.meaning key value g.row.N c.args.entries c.args.log.now c.loop-index.index c.loop-index.pairs c.loop-index.entries c.loop-index.log c.loop-index.invariant c.loop-index-test.true (seen c.in-Some.key, seen c.in-Some.value) c.next.new.self c.in-Some.ensures.steps c.in-Ok.pair c.read_entry.new.log c.in-Ok.ensures.answer c.in-Ok.ensures.logs

pub returns-clause-answer : goal.returns-clause-answer
returns-clause-answer g c =
    let key = reader g.K.DeserializeAs.reads g.K.DeserializeAs.spot g.K.DeserializeAs.skips (at_key c.args.mode) in
    let value = reader g.V.DeserializeAs.reads g.V.DeserializeAs.spot g.V.DeserializeAs.skips (at_value c.args.mode) in
    (full g.T.Named.meaning g.U.Named.meaning key value g.row.N c.args.entries c.args.log.now c.loop-index.index c.loop-index.pairs c.loop-index.entries c.loop-index.log c.loop-index.invariant (omega (arith, c.loop-index-test.false, c.loop-index.auto.index-end))).0

pub returns-clause-logs : goal.returns-clause-logs
returns-clause-logs g c =
    let key = reader g.K.DeserializeAs.reads g.K.DeserializeAs.spot g.K.DeserializeAs.skips (at_key c.args.mode) in
    let value = reader g.V.DeserializeAs.reads g.V.DeserializeAs.spot g.V.DeserializeAs.skips (at_value c.args.mode) in
    (full g.T.Named.meaning g.U.Named.meaning key value g.row.N c.args.entries c.args.log.now c.loop-index.index c.loop-index.pairs c.loop-index.entries c.loop-index.log c.loop-index.invariant (omega (arith, c.loop-index-test.false, c.loop-index.auto.index-end))).1
