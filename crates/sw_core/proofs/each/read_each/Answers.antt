use Rattle.sw_tree.specs.Inner.View.{seen}
use Rattle.sw_core.specs.Inner.Rows.{seen_logs}
use Rattle.sw_core.specs.Rows.{reader, each_by}
use Rattle.sw_tree.specs.Laws.Logs.{cut_at_start}
use Rattle.sw_core.proofs.Rows.{item_cut, item_behind}
use Rattle.sw_core.proofs.each.read_each.Goals as goal

pub returns-in_default-clause-logs : goal.returns-in_default-clause-logs
returns-in_default-clause-logs g c =
    let r = reader g.A.DeserializeAs.reads g.A.DeserializeAs.spot g.A.DeserializeAs.skips c.args.mode in
    cut_at_start c.args.log.now (seen_logs (each_by r c.args.items) c.args.items)

pub returns-in-Err-Memory-clause-logs : goal.returns-in-Err-Memory-clause-logs
returns-in-Err-Memory-clause-logs g c =
    let r = reader g.A.DeserializeAs.reads g.A.DeserializeAs.spot g.A.DeserializeAs.skips c.args.mode in
    item_cut r c.args.log.now c.loop-item.log c.deserialize_as.new.log (seen_logs (each_by r c.args.items) c.args.items) c.loop-item.item-iterator (seen c.in-Some.item) c.next.new.self c.in-Some.ensures.steps
    c.loop-item.invariant.logs (rw c.in-Err-Memory.field-0-is at c.in-Err-Memory.ensures.logs)

pub returns-then-is_err-clause-logs : goal.returns-then-is_err-clause-logs
returns-then-is_err-clause-logs g c =
    let r = reader g.A.DeserializeAs.reads g.A.DeserializeAs.spot g.A.DeserializeAs.skips c.args.mode in
    item_behind r c.args.log.now c.loop-item.log c.deserialize_as.new.log (seen_logs (each_by r c.args.items) c.args.items) c.loop-item.item-iterator (seen c.in-Some.item) c.next.new.self c.in-Some.ensures.steps
    c.loop-item.invariant.logs c.in-Ok-deserialize_as.ensures.logs
