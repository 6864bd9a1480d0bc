-- The tree of a part that is shown with its own parts.
use Rattle.sw_tree.specs.Tree.{Tree, trees, entries}
use Rattle.sw_tree.specs.Tree as node
use Rattle.sw_schema.specs.declared.part.Shown.{Shown}
use Rattle.sw_schema.specs.declared.part.Shown.TheVariants as shown

abbrev pub shown_tree : Shown → Tree
shown_tree shown.Null = node.null
shown_tree (shown.Bool b) = node.truth b
shown_tree (shown.Int n) = node.int n
shown_tree (shown.Text s) = node.text s.now
shown_tree (shown.Bytes s) = node.bytes s.now
shown_tree (shown.List p) = node.list (trees p)
shown_tree (shown.Map p) = node.map (entries p)
