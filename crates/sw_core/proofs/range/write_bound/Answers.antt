use Rattle.std.proofs.Common.{subst}
use Rattle.sw_tree.specs.Building.{IsPut}
use Rattle.sw_core.proofs.Ranged.{one_written}
use Rattle.sw_core.proofs.range.write_bound.Goals as goal

pub returns : goal.returns
returns g c =
    subst (λ r. IsPut g.B.Builds.put c.write_case.result r c.args.out.now c.write_case.new.out) (one_written c.args.name.now g.A.SerializeAs.writes c.args.mode (g.T.Named.meaning c.args.bound.now)) c.write_case.ensures
