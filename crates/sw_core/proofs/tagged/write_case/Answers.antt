use Rattle.sw_tree.specs.Mode.{at_value}
use Rattle.sw_core.proofs.Tagging.{case_put}
use Rattle.sw_core.proofs.tagged.write_case.Goals as goal

pub returns : goal.returns
returns g c =
    case_put g.B.Builds.put g.B.Builds.opened g.B.Builds.closed g.met.B.Builds.maps c.args.name.now (g.A.SerializeAs.writes (at_value c.args.mode) (g.T.Named.meaning c.args.value.now)) c.args.out.now c.open_map.new.self
    c.write_field.new.out c.close.new.self c.close.result c.in_ok-open_map.ensures c.in_ok-write_field.ensures c.close.ensures
