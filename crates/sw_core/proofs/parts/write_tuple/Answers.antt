use Rattle.sw_core.proofs.InTurn.{tuple_refused, tuple_closed}
use Rattle.sw_core.proofs.parts.write_tuple.Goals as goal

pub returns-in_err-put_parts : goal.returns-in_err-put_parts
returns-in_err-put_parts g c =
    tuple_refused g.B.Builds.put g.O.WriteParts.writers c.args.mode (g.O.WriteParts.shows c.args.values) c.open_list.new.self c.args.out.now c.put_parts.new.out c.from_residual-in_err-put_parts.result c.in_err-put_parts.field-0.0
    c.from_residual-in_err-put_parts.ensures.1 (rw c.value.ensures at c.in_err-put_parts.ensures)

pub returns : goal.returns
returns g c =
    tuple_closed g.B.Builds.put g.O.WriteParts.writers c.args.mode (g.O.WriteParts.shows c.args.values) g.B.Builds.opened g.B.Builds.closed g.met.B.Builds.lists c.args.out.now c.open_list.new.self c.put_parts.new.out c.close.new.self
    c.close.result c.in_ok-open_list.ensures (rw c.value.ensures at c.in_ok-put_parts.ensures) c.close.ensures
