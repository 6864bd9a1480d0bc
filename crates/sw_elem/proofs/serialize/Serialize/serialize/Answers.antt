use Rattle.sw_tree.specs.Laws.NodeBuilder.{node_put}
use Rattle.sw_elem.proofs.serialize.Serialize.serialize.Goals as goal

pub returns-in-Some : goal.returns-in-Some
returns-in-Some g c =
    node_put (g.Self.Serialize.writes c.args.mode (g.Self.Named.meaning c.args.self.now)) c.write.new.out c.in-Some.node c.in-Some.ensures
    (rw c.new-builder.ensures at c.in_ok-write.ensures)
