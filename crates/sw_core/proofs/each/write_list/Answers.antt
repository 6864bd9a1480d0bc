use Rattle.sw_core.specs.Laws.Putting.{list_refused, list_closed}
use Rattle.sw_core.proofs.each.write_list.Goals as goal

pub returns-in_err-put_each : goal.returns-in_err-put_each
returns-in_err-put_each g c xs h =
    list_refused g.B.Builds.put g.A.SerializeAs.writes g.T.Named.meaning c.args.mode xs c.open_list.new.self c.args.out.now c.put_each.new.out c.from_residual-in_err-put_each.result c.in_err-put_each.field-0.0
    c.from_residual-in_err-put_each.ensures.1 (c.in_err-put_each.ensures xs h)

pub returns : goal.returns
returns g c xs h =
    list_closed g.B.Builds.put g.A.SerializeAs.writes g.T.Named.meaning c.args.mode g.B.Builds.opened g.B.Builds.closed g.met.B.Builds.lists xs c.args.out.now c.open_list.new.self c.put_each.new.out c.close.new.self
    c.close.result c.in_ok-open_list.ensures (c.in_ok-put_each.ensures xs h) c.close.ensures
