use Rattle.std.proofs.Common.{arith}
use Rattle.std.proofs.lemmas.List.{length-replicate}
use Rattle.std.proofs.Common.{replicate}
use Rattle.sw_tree.specs.Inner.View.{seen}
use Rattle.sw_core.specs.Parts.{reading}
use Rattle.sw_core.proofs.Filling.{start, short, refused, refused_logs, cut, next, done, done_logs, too_many}
use Rattle.sw_core.proofs.array.RepeatedReadPartsArray.read_parts.Goals as goal

pub loop-index-init : goal.loop-index-init
loop-index-init g c =
    let x = reading g.A.DeserializeAs.reads g.A.DeserializeAs.spot g.A.DeserializeAs.skips in
    start g.T.Named.meaning x c.args.mode g.row.N c.args.items c.args.log.now (replicate g.row.N c.default-values.result) (length-replicate g.row.N c.default-values.result)

pub returns-in_default-clause-answer : goal.returns-in_default-clause-answer
returns-in_default-clause-answer g c =
    let x = reading g.A.DeserializeAs.reads g.A.DeserializeAs.spot g.A.DeserializeAs.skips in
    (short g.T.Named.meaning x c.args.mode g.row.N c.args.items c.args.log.now c.loop-index.index c.loop-index.values c.loop-index.items c.loop-index.log c.loop-index.invariant c.loop-index-test.true c.in_default.ensures.steps.0).0

pub returns-in_default-clause-logs : goal.returns-in_default-clause-logs
returns-in_default-clause-logs g c =
    let x = reading g.A.DeserializeAs.reads g.A.DeserializeAs.spot g.A.DeserializeAs.skips in
    (short g.T.Named.meaning x c.args.mode g.row.N c.args.items c.args.log.now c.loop-index.index c.loop-index.values c.loop-index.items c.loop-index.log c.loop-index.invariant c.loop-index-test.true c.in_default.ensures.steps.0).1

pub returns-in-Err-Refused-clause-answer : goal.returns-in-Err-Refused-clause-answer
returns-in-Err-Refused-clause-answer g c =
    let x = reading g.A.DeserializeAs.reads g.A.DeserializeAs.spot g.A.DeserializeAs.skips in
    rw c.in-Err-Refused.field-0-is (refused g.T.Named.meaning x c.args.mode g.row.N c.args.items c.args.log.now c.loop-index.index c.loop-index.values c.loop-index.items c.loop-index.log c.loop-index.invariant c.loop-index-test.true (seen c.in-Some.item) c.next.new.self c.in-Some.ensures.steps c.in-Err-Refused.refusal (rw c.in-Err-Refused.field-0-is at c.in-Err-Refused.ensures.answer))

pub returns-in-Err-Refused-clause-logs : goal.returns-in-Err-Refused-clause-logs
returns-in-Err-Refused-clause-logs g c =
    let x = reading g.A.DeserializeAs.reads g.A.DeserializeAs.spot g.A.DeserializeAs.skips in
    refused_logs g.T.Named.meaning x c.args.mode g.row.N c.args.items c.args.log.now c.loop-index.index c.loop-index.values c.loop-index.items c.loop-index.log c.loop-index.invariant c.loop-index-test.true (seen c.in-Some.item) c.next.new.self c.in-Some.ensures.steps c.in-Err-Refused.refusal c.deserialize_as.new.log (rw c.in-Err-Refused.field-0-is at c.in-Err-Refused.ensures.answer) (rw c.in-Err-Refused.field-0-is at c.in-Err-Refused.ensures.logs)

pub returns-in-Err-Memory-clause-logs : goal.returns-in-Err-Memory-clause-logs
returns-in-Err-Memory-clause-logs g c =
    let x = reading g.A.DeserializeAs.reads g.A.DeserializeAs.spot g.A.DeserializeAs.skips in
    cut g.T.Named.meaning x c.args.mode g.row.N c.args.items c.args.log.now c.loop-index.index c.loop-index.values c.loop-index.items c.loop-index.log c.loop-index.invariant c.loop-index-test.true (seen c.in-Some.item) c.next.new.self c.in-Some.ensures.steps c.deserialize_as.new.log (rw c.in-Err-Memory.field-0-is at c.in-Err-Memory.ensures.logs)

pub loop-index-preserved : goal.loop-index-preserved
loop-index-preserved g c =
    let x = reading g.A.DeserializeAs.reads g.A.DeserializeAs.spot g.A.DeserializeAs.skips in
    next g.T.Named.meaning x c.args.mode g.row.N c.args.items c.args.log.now c.loop-index.index c.loop-index.values c.loop-index.items c.loop-index.log c.loop-index.invariant c.loop-index-test.true (seen c.in-Some.item) c.next.new.self c.in-Some.ensures.steps c.in-Ok.value c.deserialize_as.new.log c.in-Ok.ensures.answer c.in-Ok.ensures.logs

pub returns-in-None-clause-answer : goal.returns-in-None-clause-answer
returns-in-None-clause-answer g c =
    let x = reading g.A.DeserializeAs.reads g.A.DeserializeAs.spot g.A.DeserializeAs.skips in
    done g.T.Named.meaning x c.args.mode g.row.N c.args.items c.args.log.now c.loop-index.index c.loop-index.values c.loop-index.items c.loop-index.log c.loop-index.invariant (omega (arith, c.loop-index-test.false, c.loop-index.auto.index-end)) c.in-None.ensures.steps.0

pub returns-in-None-clause-logs : goal.returns-in-None-clause-logs
returns-in-None-clause-logs g c =
    let x = reading g.A.DeserializeAs.reads g.A.DeserializeAs.spot g.A.DeserializeAs.skips in
    done_logs g.T.Named.meaning x c.args.mode g.row.N c.args.items c.args.log.now c.loop-index.index c.loop-index.values c.loop-index.items c.loop-index.log c.loop-index.invariant (omega (arith, c.loop-index-test.false, c.loop-index.auto.index-end))

pub returns-in-Some-next-clause-answer : goal.returns-in-Some-next-clause-answer
returns-in-Some-next-clause-answer g c =
    let x = reading g.A.DeserializeAs.reads g.A.DeserializeAs.spot g.A.DeserializeAs.skips in
    too_many g.T.Named.meaning x c.args.mode g.row.N c.args.items c.args.log.now c.loop-index.index c.loop-index.values c.loop-index.items c.loop-index.log c.loop-index.invariant (omega (arith, c.loop-index-test.false, c.loop-index.auto.index-end)) (seen c.in-Some-next.field-0) c.next-2.new.self c.in-Some-next.ensures.steps

pub returns-in-Some-next-clause-logs : goal.returns-in-Some-next-clause-logs
returns-in-Some-next-clause-logs g c =
    let x = reading g.A.DeserializeAs.reads g.A.DeserializeAs.spot g.A.DeserializeAs.skips in
    done_logs g.T.Named.meaning x c.args.mode g.row.N c.args.items c.args.log.now c.loop-index.index c.loop-index.values c.loop-index.items c.loop-index.log c.loop-index.invariant (omega (arith, c.loop-index-test.false, c.loop-index.auto.index-end))
