use Rattle.std.proofs.Common.{Some, None, Ok, Err, ◌++◌, ◌≡◌, List, subst}
use Rattle.sw_tree.specs.Inner.View.{seen}
use Rattle.sw_tree.specs.Logged.{IsCut}
use Rattle.sw_tree.specs.declared.fail.Refusal.{Refusal}
use Rattle.sw_core.proofs.InTurn.{tuple_ended, tuple_logged}
use Rattle.sw_core.proofs.parts.read_tuple.Goals as goal

pub returns-in-Ok-Some-clause-answer : goal.returns-in-Ok-Some-clause-answer
returns-in-Ok-Some-clause-answer g c =
    tuple_ended g.O.ReadParts.readings c.args.mode (seen c.args.view) c.in-Some.items c.in-Some.ensures (Ok (Some (g.O.ReadParts.shows c.in-Ok-Some.values))) (rw (c.in-Ok-Some.field-0-is, c.value.ensures) at c.in-Ok-Some.ensures.answer)

pub returns-in-Ok-Some-clause-logs : goal.returns-in-Ok-Some-clause-logs
returns-in-Ok-Some-clause-logs g c =
    subst (λ (ls : List Refusal). c.read_parts.new.log ≡ c.args.log.now ++ ls) (tuple_logged g.O.ReadParts.readings c.args.mode (seen c.args.view) c.in-Some.items c.in-Some.ensures) (rw c.value.ensures at c.in-Ok-Some.ensures.logs)

pub returns-in-Ok-None-clause-answer : goal.returns-in-Ok-None-clause-answer
returns-in-Ok-None-clause-answer g c =
    rw (c.refused_at-in-Ok-None.ensures, c.len.ensures.count)
    (tuple_ended g.O.ReadParts.readings c.args.mode (seen c.args.view) c.in-Some.items c.in-Some.ensures (Ok None) (rw (c.in-Ok-None.field-0-is, c.value.ensures) at c.in-Ok-None.ensures.answer))

pub returns-in-Ok-None-clause-logs : goal.returns-in-Ok-None-clause-logs
returns-in-Ok-None-clause-logs g c =
    rw c.refused_at-in-Ok-None.ensures
    (subst (λ (ls : List Refusal). c.read_parts.new.log ≡ c.args.log.now ++ ls) (tuple_logged g.O.ReadParts.readings c.args.mode (seen c.args.view) c.in-Some.items c.in-Some.ensures) (rw c.value.ensures at c.in-Ok-None.ensures.logs))

pub returns-in-Err-Refused-clause-answer : goal.returns-in-Err-Refused-clause-answer
returns-in-Err-Refused-clause-answer g c =
    tuple_ended g.O.ReadParts.readings c.args.mode (seen c.args.view) c.in-Some.items c.in-Some.ensures (Err c.in-Err-Refused.refusal) (rw (c.in-Err-Refused.field-0-is, c.value.ensures) at c.in-Err-Refused.ensures.answer)

pub returns-in-Err-Refused-clause-logs : goal.returns-in-Err-Refused-clause-logs
returns-in-Err-Refused-clause-logs g c =
    subst (λ (ls : List Refusal). c.read_parts.new.log ≡ c.args.log.now ++ ls) (tuple_logged g.O.ReadParts.readings c.args.mode (seen c.args.view) c.in-Some.items c.in-Some.ensures)
    (rw (c.in-Err-Refused.field-0-is, c.value.ensures) at c.in-Err-Refused.ensures.logs)

pub returns-in-Err-Memory-clause-logs : goal.returns-in-Err-Memory-clause-logs
returns-in-Err-Memory-clause-logs g c =
    subst (λ (ls : List Refusal). IsCut c.args.log.now c.read_parts.new.log ls) (tuple_logged g.O.ReadParts.readings c.args.mode (seen c.args.view) c.in-Some.items c.in-Some.ensures)
    (rw (c.in-Err-Memory.field-0-is, c.value.ensures) at c.in-Err-Memory.ensures.logs)
