use Rattle.sw_compact.proofs.Marked.{either_tree, either_error}
use Rattle.sw_compact.proofs.wire.CompactWireWire.read_tree.Goals as goal

pub returns-clause-tree : goal.returns-clause-tree
returns-clause-tree c = either_tree c.args.bytes.now _ c.read_either.ensures.found

pub returns-clause-refused : goal.returns-clause-refused
returns-clause-refused c = either_error c.args.bytes.now _ c.read_either.ensures.found
