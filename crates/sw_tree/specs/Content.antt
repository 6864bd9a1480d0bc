-- The tree that a node's content is.
use Rattle.sw_tree.specs.Tree.{Tree, null, truth, int, text, bytes, list, map, trees, entries}
use Rattle.sw_tree.specs.declared.content.Content.{Content}
use Rattle.sw_tree.specs.declared.content.Content.TheVariants as content
use Rattle.sw_tree.specs.Inner.View.{tree_of}

abbrev pub content_tree : Content → Tree
content_tree content.Null = null
content_tree (content.Bool b) = truth b
content_tree (content.Int n) = int n
content_tree (content.Text s) = text s.now
content_tree (content.Bytes s) = bytes s.now
content_tree (content.List s) = list (trees s.now)
content_tree (content.Map s) = map (entries s.now)
content_tree (content.Document v) = tree_of v
