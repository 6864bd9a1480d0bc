use Rattle.sw_compact.proofs.Marked.{first_found, first_tree, first_error}
use Rattle.sw_compact.proofs.wire.CompactWire1Wire.read_tree.Goals as goal

pub returns-clause-found : goal.returns-clause-found
returns-clause-found c = first_found c.args.bytes.now _ c.read_by.ensures.found

pub returns-clause-tree : goal.returns-clause-tree
returns-clause-tree c = first_tree c.args.bytes.now _ (returns-clause-found c)

pub returns-clause-refused : goal.returns-clause-refused
returns-clause-refused c = first_error c.args.bytes.now _ (returns-clause-found c)
