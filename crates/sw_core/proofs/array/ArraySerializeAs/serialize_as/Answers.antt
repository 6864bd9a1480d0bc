use Rattle.sw_tree.specs.Laws.NodeBuilder.{node_put}
use Rattle.sw_tree.specs.Meant.{list_meaning}
use Rattle.sw_core.specs.Vec.{list_writes}
use Rattle.sw_core.proofs.array.ArraySerializeAs.serialize_as.Goals as goal

pub returns-in-Some : goal.returns-in-Some
returns-in-Some g c =
    node_put (list_writes g.A.SerializeAs.writes c.args.mode (list_meaning g.T.Named.meaning c.args.source.now)) c.write_as.new.out c.in-Some.node c.in-Some.ensures
    (rw c.new-builder.ensures at c.in_ok-write_as.ensures)
