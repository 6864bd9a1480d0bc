use Rattle.std.proofs.Common.{true}
use Rattle.sw_tree.specs.Mode.{at_key, at_value}
use Rattle.sw_core.specs.Laws.Putting.{map_opened}
use Rattle.sw_core.proofs.entries.write_entries.Goals as goal

pub loop-pair-init : goal.loop-pair-init
loop-pair-init g c =
    map_opened g.B.Builds.put (g.K.SerializeAs.writes (at_key c.args.mode)) (g.V.SerializeAs.writes (at_value c.args.mode)) g.T.Named.meaning g.U.Named.meaning c.args.pairs.now (g.B.Builds.opened true c.args.out.now) c.open_map.new.self
    c.in_ok-open_map.ensures
