use Rattle.std.proofs.Common.{◌≡◌, ◌++◌, sym, subst}
use Rattle.sw_tree.specs.Inner.View.{seen}
use Rattle.sw_tree.specs.Logged.{IsCut}
use Rattle.sw_core.proofs.FirstEntry.{one_logged, many_refused}
use Rattle.sw_core.proofs.optional_pair.read_optional.Goals as goal

pub returns-in-Err-Refused-clause-logs : goal.returns-in-Err-Refused-clause-logs
returns-in-Err-Refused-clause-logs g c =
    let key = g.K.DeserializeAs in
    let value = g.V.DeserializeAs in
    subst (λ ls. c.read_entry.new.log ≡ c.args.log.now ++ ls)
    (sym (one_logged key.reads key.spot key.skips value.reads value.spot value.skips c.args.mode (seen c.args.view) c.in-Some.entries c.in-Some.ensures (seen c.in-Some-next.key) (seen c.in-Some-next.value) c.next.new.self c.in-Some-next.ensures.steps))
    (rw c.in-Err-Refused.field-0-is at c.in-Err-Refused.ensures.logs)

pub returns-in-Err-Memory-clause-logs : goal.returns-in-Err-Memory-clause-logs
returns-in-Err-Memory-clause-logs g c =
    let key = g.K.DeserializeAs in
    let value = g.V.DeserializeAs in
    subst (IsCut c.args.log.now c.read_entry.new.log)
    (sym (one_logged key.reads key.spot key.skips value.reads value.spot value.skips c.args.mode (seen c.args.view) c.in-Some.entries c.in-Some.ensures (seen c.in-Some-next.key) (seen c.in-Some-next.value) c.next.new.self c.in-Some-next.ensures.steps))
    (rw c.in-Err-Memory.field-0-is at c.in-Err-Memory.ensures.logs)

pub returns-then-count-ne1-clause-answer : goal.returns-then-count-ne1-clause-answer
returns-then-count-ne1-clause-answer g c =
    let key = g.K.DeserializeAs in
    let value = g.V.DeserializeAs in
    rw c.refused_at-then-count-ne1.ensures
    (many_refused key.reads key.spot key.skips value.reads value.spot value.skips c.args.mode (seen c.args.view) c.in-Some.entries c.in-Some.ensures (seen c.in-Some-next.key) (seen c.in-Some-next.value) c.next.new.self c.in-Some-next.ensures.steps
    (g.T.Named.meaning c.in-Ok.pair.0) (g.U.Named.meaning c.in-Ok.pair.1) c.in-Ok.ensures.answer c.len-count.result (c.len-count.ensures.entries c.in-Some.entries (sym c.in-Some.ensures)) c.if-count-ne1.true)

pub returns-then-count-ne1-clause-logs : goal.returns-then-count-ne1-clause-logs
returns-then-count-ne1-clause-logs g c =
    let key = g.K.DeserializeAs in
    let value = g.V.DeserializeAs in
    rw c.refused_at-then-count-ne1.ensures
    (subst (λ ls. c.read_entry.new.log ≡ c.args.log.now ++ ls)
    (sym (one_logged key.reads key.spot key.skips value.reads value.spot value.skips c.args.mode (seen c.args.view) c.in-Some.entries c.in-Some.ensures (seen c.in-Some-next.key) (seen c.in-Some-next.value) c.next.new.self c.in-Some-next.ensures.steps)) c.in-Ok.ensures.logs)

pub returns-clause-logs : goal.returns-clause-logs
returns-clause-logs g c =
    let key = g.K.DeserializeAs in
    let value = g.V.DeserializeAs in
    subst (λ ls. c.read_entry.new.log ≡ c.args.log.now ++ ls)
    (sym (one_logged key.reads key.spot key.skips value.reads value.spot value.skips c.args.mode (seen c.args.view) c.in-Some.entries c.in-Some.ensures (seen c.in-Some-next.key) (seen c.in-Some-next.value) c.next.new.self c.in-Some-next.ensures.steps))
    c.in-Ok.ensures.logs
