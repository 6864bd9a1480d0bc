use Rattle.sw_tree.specs.Laws.NodeBuilder.{node_put}
use Rattle.sw_core.proofs.adapter.SerializeAs.serialize_as.Goals as goal

pub returns-in-Some : goal.returns-in-Some
returns-in-Some g c =
    node_put (g.Self.SerializeAs.writes c.args.mode (g.T.Named.meaning c.args.source.now)) c.write_as.new.out c.in-Some.node c.in-Some.ensures
    (rw c.new-builder.ensures at c.in_ok-write_as.ensures)
