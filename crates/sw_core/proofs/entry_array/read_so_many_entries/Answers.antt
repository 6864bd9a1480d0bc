use Rattle.std.proofs.Common.{◌≡◌, ◌++◌, length, take, sym, subst, ◌∙◌}
use Rattle.sw_tree.specs.Inner.View.{seen}
use Rattle.sw_tree.specs.Logged.{IsCut}
use Rattle.sw_core.specs.Inner.Rows.{all_both}
use Rattle.sw_core.proofs.EntryFilling.{array_logged, array_refused, array_made, array_counted}
use Rattle.sw_core.proofs.entry_array.read_so_many_entries.Goals as goal

pub returns-in-Err-Refused-clause-answer : goal.returns-in-Err-Refused-clause-answer
returns-in-Err-Refused-clause-answer g c =
    let key = g.K.DeserializeAs in
    let value = g.V.DeserializeAs in
    array_refused g.row.N key.reads key.spot key.skips value.reads value.spot value.skips c.args.mode (seen c.args.view) c.in-Some.entries c.in-Some.ensures c.in-Err-Refused.refusal (rw c.in-Err-Refused.field-0-is at c.in-Err-Refused.ensures.answer)

pub returns-in-Err-Refused-clause-logs : goal.returns-in-Err-Refused-clause-logs
returns-in-Err-Refused-clause-logs g c =
    let key = g.K.DeserializeAs in
    let value = g.V.DeserializeAs in
    subst (λ ls. c.fill_in_turn.new.log ≡ c.args.log.now ++ ls) (array_logged g.row.N key.reads key.spot key.skips value.reads value.spot value.skips c.args.mode (seen c.args.view) c.in-Some.entries c.in-Some.ensures) (rw c.in-Err-Refused.field-0-is at c.in-Err-Refused.ensures.logs)

pub returns-in-Err-Memory-clause-logs : goal.returns-in-Err-Memory-clause-logs
returns-in-Err-Memory-clause-logs g c =
    let key = g.K.DeserializeAs in
    let value = g.V.DeserializeAs in
    subst (IsCut c.args.log.now c.fill_in_turn.new.log) (array_logged g.row.N key.reads key.spot key.skips value.reads value.spot value.skips c.args.mode (seen c.args.view) c.in-Some.entries c.in-Some.ensures) (rw c.in-Err-Memory.field-0-is at c.in-Err-Memory.ensures.logs)

pub returns-then-count-clause-answer : goal.returns-then-count-clause-answer
returns-then-count-clause-answer g c =
    let key = g.K.DeserializeAs in
    let value = g.V.DeserializeAs in
    rw c.refused_at-then-count.ensures (array_counted g.row.N key.reads key.spot key.skips value.reads value.spot value.skips c.args.mode (seen c.args.view) c.in-Some.entries c.in-Some.ensures (all_both g.T.Named.meaning g.U.Named.meaning (take (length c.in-Some.entries) c.in-Ok.pairs)) c.len-count.result (c.len-count.ensures.entries c.in-Some.entries (sym c.in-Some.ensures)) c.if-count.true c.in-Ok.ensures.answer)

pub returns-then-count-clause-logs : goal.returns-then-count-clause-logs
returns-then-count-clause-logs g c =
    let key = g.K.DeserializeAs in
    let value = g.V.DeserializeAs in
    rw c.refused_at-then-count.ensures (subst (λ ls. c.fill_in_turn.new.log ≡ c.args.log.now ++ ls) (array_logged g.row.N key.reads key.spot key.skips value.reads value.spot value.skips c.args.mode (seen c.args.view) c.in-Some.entries c.in-Some.ensures) c.in-Ok.ensures.logs)

pub returns-clause-answer : goal.returns-clause-answer
returns-clause-answer g c =
    let key = g.K.DeserializeAs in
    let value = g.V.DeserializeAs in
    array_made g.row.N key.reads key.spot key.skips value.reads value.spot value.skips c.args.mode (seen c.args.view) c.in-Some.entries c.in-Some.ensures g.T.Named.meaning g.U.Named.meaning c.in-Ok.pairs c.in-Ok.ensures.room ((c.len-count.ensures.entries c.in-Some.entries (sym c.in-Some.ensures)) ∙ c.if-count.false) c.in-Ok.ensures.answer

pub returns-clause-logs : goal.returns-clause-logs
returns-clause-logs g c =
    let key = g.K.DeserializeAs in
    let value = g.V.DeserializeAs in
    subst (λ ls. c.fill_in_turn.new.log ≡ c.args.log.now ++ ls) (array_logged g.row.N key.reads key.spot key.skips value.reads value.spot value.skips c.args.mode (seen c.args.view) c.in-Some.entries c.in-Some.ensures) c.in-Ok.ensures.logs
