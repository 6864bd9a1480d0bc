use Rattle.std.proofs.Common.{arith, ap}
use Rattle.sw_tree.specs.Inner.View.{seen}
use Rattle.sw_tree.specs.Tree.{depth}
use Rattle.sw_tree.proofs.Shown.{list_seen, map_seen}
use Rattle.sw_tree.proofs.foreign.+foreign_in.Goals as goal

pub foreign_in-foreign_in_items-requires : goal.foreign_in-foreign_in_items-requires
foreign_in-foreign_in_items-requires t c = (omega (arith, c.decreases, ap depth (list_seen (seen c.args.view) c.in-Some.items c.in-Some.ensures)), tt)

pub foreign_in-foreign_in_entries-requires : goal.foreign_in-foreign_in_entries-requires
foreign_in-foreign_in_entries-requires t c = (omega (arith, c.decreases, ap depth (map_seen (seen c.args.view) c.in-Some-entries.entries c.in-Some-entries.ensures)), tt)
