use Rattle.std.proofs.Common.{ap, arith}
use Rattle.sw_tree.specs.Tree.{depth}
use Rattle.sw_tree.specs.Inner.View.{seen}
use Rattle.sw_tree.proofs.Shown.{list_seen, map_seen, shallow_view}
use Rattle.sw_tree.proofs.levels.+levels_of.Goals as goal

pub levels_of-levels_of_items-requires : goal.levels_of-levels_of_items-requires
levels_of-levels_of_items-requires t c = (omega (arith, c.decreases, ap depth (list_seen (seen c.args.view) c.in-Some.items c.in-Some.ensures)), tt)

pub levels_of-overflow_add-result : goal.levels_of-overflow_add-result
levels_of-overflow_add-result t c = omega (arith, c.levels_of_items.ensures, ap depth (list_seen (seen c.args.view) c.in-Some.items c.in-Some.ensures), shallow_view c.args.view)

pub levels_of-returns-in-Some : goal.levels_of-returns-in-Some
levels_of-returns-in-Some t c = omega (arith, c.levels_of_items.ensures, ap depth (list_seen (seen c.args.view) c.in-Some.items c.in-Some.ensures))

pub levels_of-levels_of_entries-requires : goal.levels_of-levels_of_entries-requires
levels_of-levels_of_entries-requires t c = (omega (arith, c.decreases, ap depth (map_seen (seen c.args.view) c.in-Some-entries.pairs c.in-Some-entries.ensures)), tt)

pub levels_of-overflow_add-result-in-Some-entries : goal.levels_of-overflow_add-result-in-Some-entries
levels_of-overflow_add-result-in-Some-entries t c = omega (arith, c.levels_of_entries.ensures, ap depth (map_seen (seen c.args.view) c.in-Some-entries.pairs c.in-Some-entries.ensures), shallow_view c.args.view)

pub levels_of-returns-in-Some-entries : goal.levels_of-returns-in-Some-entries
levels_of-returns-in-Some-entries t c = omega (arith, c.levels_of_entries.ensures, ap depth (map_seen (seen c.args.view) c.in-Some-entries.pairs c.in-Some-entries.ensures))
