use Rattle.std.proofs.Common.{[]}
use Rattle.sw_tree.proofs.builder.DocBuilder.small.Goals as goal

pub leaf-requires-clause-fine : goal.leaf-requires-clause-fine
leaf-requires-clause-fine c = c.of_number.ensures.fine (record { input = c.args.self.now.input; side = []; wides = [] })
