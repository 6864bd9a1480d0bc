use Rattle.sw_pairs.proofs.Pairs.{pairs_refused, pairs_closed}
use Rattle.sw_pairs.proofs.each.write_pairs.Goals as goal

pub returns-in_err-put_pairs : goal.returns-in_err-put_pairs
returns-in_err-put_pairs g c xs h =
    pairs_refused g.B.Builds.put g.K.SerializeAs.writes g.V.SerializeAs.writes g.T.Named.meaning g.U.Named.meaning c.args.mode g.B.Builds.opened xs c.args.out.now c.open_map.new.self c.in_ok-open_map.ensures c.put_pairs.new.out
    c.from_residual-in_err-put_pairs.result c.in_err-put_pairs.field-0.0 c.from_residual-in_err-put_pairs.ensures.1 (c.in_err-put_pairs.ensures xs h)

pub returns : goal.returns
returns g c xs h =
    pairs_closed g.B.Builds.put g.K.SerializeAs.writes g.V.SerializeAs.writes g.T.Named.meaning g.U.Named.meaning c.args.mode g.B.Builds.opened xs c.args.out.now c.open_map.new.self c.in_ok-open_map.ensures g.B.Builds.closed
    g.met.B.Builds.maps c.put_pairs.new.out c.close.new.self c.close.result (c.in_ok-put_pairs.ensures xs h) c.close.ensures
