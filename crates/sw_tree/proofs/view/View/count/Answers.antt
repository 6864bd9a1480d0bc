use Rattle.std.proofs.Common.{refl}
use Rattle.std.proofs.lemmas.List.{length-take-le}
use Rattle.sw_tree.specs.Laws.Tree.{items-trees, pairs-entries}
use Rattle.sw_tree.proofs.Lists.{turns_length}
use Rattle.sw_tree.proofs.view.View.count.Goals as goal

pub returns-in-List : goal.returns-in-List
returns-in-List c = rw (c.in-List.ensures.tree, items-trees, length-take-le _ _ c.in-List.ensures.enough) refl

pub returns-in-Map : goal.returns-in-Map
returns-in-Map c = rw (c.in-Map.ensures.tree, pairs-entries, turns_length c.in-Map.extent.count _ c.in-Map.ensures.enough) refl
