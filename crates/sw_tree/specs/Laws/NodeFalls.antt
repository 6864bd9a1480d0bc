-- Each child of a node has fewer levels than the node.
use Rattle.std.specs.Prelude.{◌+◌, ◌≤◌, List, [], ◌∷◌, max}
use denote.Param.Weighed.{most}
use Rattle.std.proofs.Common.{arith}
use Rattle.sw_tree.specs.Tree.{Tree, trees, depth, trees_depth, entries, entries_depth}
use Rattle.sw_tree.specs.declared.node.Shape.{Shape}
use Rattle.sw_tree.specs.declared.node.Shape.TheVariants as shape
use Rattle.sw_tree.specs.declared.node.Node.TheDeep.{deep-Shape}
use Rattle.sw_tree.specs.declared.node.Node.TheShapes.{weighed-Shape-Map-0-at-2}
use Rattle.sw_tree.specs.Inner.NodeShape.{shape_tree}

most-trees : (ts : List Tree) → most (λ t. depth t + 1) ts ≤ trees_depth (trees ts) + 1
most-trees [] = omega arith
most-trees (t ∷ ts) = omega (arith, most-trees ts)

most-entries : (es : List (Tree × Tree)) → most (weighed-Shape-Map-0-at-2.weight Tree (λ t. depth t + 1)) es ≤ entries_depth (entries es) + 1
most-entries [] = omega arith
most-entries (e ∷ es) = let k : weighed-Shape-Map-0-at-2.weight Tree (λ t. depth t + 1) e ≤ max (depth e.0) (depth e.1) + 1 = omega arith in omega (arith, most-entries es)

pub deep_le-depth : (r : Shape) → max (deep-Shape r) 0 ≤ depth (shape_tree r)
deep_le-depth shape.Null = omega arith
deep_le-depth (shape.Bool b) = omega arith
deep_le-depth (shape.Int n) = omega arith
deep_le-depth (shape.Text s) = omega arith
deep_le-depth (shape.Bytes s) = omega arith
deep_le-depth (shape.List v) = omega (arith, most-trees v.items)
deep_le-depth (shape.Map v) = let h : most (weighed-Shape-Map-0-at-2.weight Tree (λ t. depth t + 1)) v.items ≤ entries_depth (entries v.items) + 1 = most-entries v.items in omega arith
deep_le-depth (shape.Kept k) = omega arith
