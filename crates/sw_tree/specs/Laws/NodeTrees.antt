-- The parts of a tree that a node can be are such trees, and a list or map of such trees, of at most 128 levels, is one.
use Rattle.std.specs.Prelude.{◌≤◌, List, [], ◌∷◌}
use Rattle.std.proofs.Common.{arith}
use Rattle.sw_tree.specs.Steps.{Each}
use Rattle.sw_tree.specs.Proper.{IsNodeTree, AreProper, AreProperEntries}
use Rattle.sw_tree.specs.Tree.{Tree, Trees, no_trees, tree, items, trees_depth, list, Entries, no_entries, entry, pairs, entries_depth, map, trees, depth, entries}

-- the key and the value of an entry are such trees
abbrev pub AreNodeTrees : Tree × Tree → Type 0
AreNodeTrees e = IsNodeTree e.0 × IsNodeTree e.1

items_are : (ts : Trees) → AreProper ts → trees_depth ts ≤ 127 → Each IsNodeTree (items ts)
items_are no_trees h d = tt
items_are (tree t ts) h d = let here : IsNodeTree t = record { proper = h.0; shallow = omega arith } in (here, items_are ts h.1 (omega arith))

pub items-are_nodes : (ts : Trees) → IsNodeTree (list ts) → Each IsNodeTree (items ts)
items-are_nodes ts h = items_are ts h.proper (omega (arith, h.shallow))

pairs_are : (es : Entries) → AreProperEntries es → entries_depth es ≤ 127 → Each AreNodeTrees (pairs es)
pairs_are no_entries h d = tt
pairs_are (entry k v es) h d =
    let key : IsNodeTree k = record { proper = h.0; shallow = omega arith } in
    let value : IsNodeTree v = record { proper = h.1; shallow = omega arith } in
    ((key, value), pairs_are es h.2 (omega arith))

pub pairs-are_nodes : (es : Entries) → IsNodeTree (map es) → Each AreNodeTrees (pairs es)
pairs-are_nodes es h = pairs_are es h.proper (omega (arith, h.shallow))

each_proper : (ts : List Tree) → Each IsNodeTree ts → AreProper (trees ts)
each_proper [] h = tt
each_proper (t ∷ ts) h = (h.0.proper, each_proper ts h.1)

pub list-is_node : (ts : List Tree) → Each IsNodeTree ts → depth (list (trees ts)) ≤ 128 → IsNodeTree (list (trees ts))
list-is_node ts h d = record { proper = each_proper ts h; shallow = d }

each_pair_proper : (es : List (Tree × Tree)) → Each AreNodeTrees es → AreProperEntries (entries es)
each_pair_proper [] h = tt
each_pair_proper (e ∷ es) h = (h.0.0.proper, h.0.1.proper, each_pair_proper es h.1)

pub map-is_node : (es : List (Tree × Tree)) → Each AreNodeTrees es → depth (map (entries es)) ≤ 128 → IsNodeTree (map (entries es))
map-is_node es h d = record { proper = each_pair_proper es h; shallow = d }
