-- What is said of the nodes of a node's children holds of the node.
use Rattle.std.specs.Prelude.{◌≡◌, List, [], ◌∷◌}
use Rattle.std.proofs.Common.{refl, ap}
use Rattle.sw_tree.specs.Laws.Nodes.{all_kinds, items-kinds, pairs-kinds, on, IsStable}
use Rattle.sw_tree.specs.Nodes.{kinds}
use Rattle.sw_tree.specs.Laws.NodeTrees.{AreNodeTrees, items-are_nodes, pairs-are_nodes}
use Rattle.sw_tree.specs.Placed.{Note, moved}
use Rattle.sw_tree.specs.Proper.{IsNodeTree}
use Rattle.sw_tree.specs.Steps.{Each}
use Rattle.sw_tree.specs.Tree.{Tree, pairs, by_turns, kind_of}
use Rattle.sw_tree.specs.Tree as node
use Rattle.sw_tree.specs.declared.mode.Kind.{Kind}
use Rattle.sw_core.specs.Plans.{children}

-- a node's own kind, then those of its children's nodes
pub children-kinds : (t : Tree) → kinds t ≡ kind_of t ∷ all_kinds (children t)
children-kinds node.null = refl
children-kinds (node.truth b) = refl
children-kinds (node.int n) = refl
children-kinds (node.text s) = refl
children-kinds (node.bytes s) = refl
children-kinds (node.list ts) = ap (λ ks. kind_of (node.list ts) ∷ ks) (items-kinds ts)
children-kinds (node.map es) = ap (λ ks. kind_of (node.map es) ∷ ks) (pairs-kinds es)

by_turns-nodes : (es : List (Tree × Tree)) → Each AreNodeTrees es → Each IsNodeTree (by_turns es)
by_turns-nodes [] h = tt
by_turns-nodes (e ∷ es) h = (h.0.0, (h.0.1, by_turns-nodes es h.1))

-- the children of a tree that a node can be are such trees
pub children-nodes : (t : Tree) → IsNodeTree t → Each IsNodeTree (children t)
children-nodes (node.list ts) h = items-are_nodes ts h
children-nodes (node.map es) h = by_turns-nodes (pairs es) (pairs-are_nodes es h)
children-nodes node.null h = tt
children-nodes (node.truth b) h = tt
children-nodes (node.int n) h = tt
children-nodes (node.text s) h = tt
children-nodes (node.bytes s) h = tt

module _ (Q : List Kind → Note → Type 0) (s : IsStable Q) where
  -- below a node
  pub below : (t : Tree) (n : Note) → Q (all_kinds (children t)) n → Q (kinds t) (on 1 n)
  below t n h = rw (children-kinds t) (s.right (kind_of t ∷ []) (all_kinds (children t)) n h)

  pub all_below : (t : Tree) (ns : List Note) → Each (Q (all_kinds (children t))) ns → Each (Q (kinds t)) (moved 1 ns)
  all_below t [] h = tt
  all_below t (n ∷ ns) h = (below t n h.0, all_below t ns h.1)
