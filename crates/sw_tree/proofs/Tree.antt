-- Rows of parts as lists, and how deep they are.
use Rattle.std.specs.Prelude.{◌≡◌, max, List, [], ◌∷◌, ◌++◌}
use Rattle.std.proofs.Common.{refl, ap, arith}
use Rattle.sw_tree.specs.Tree.{no_trees, tree, Trees, trees, items, no_entries, entry, Entries, entries, pairs, Tree, depth, trees_depth, entries_depth}

pub trees-items : (ts : Trees) → trees (items ts) ≡ ts
trees-items no_trees = refl
trees-items (tree t ts) = ap (λ r. tree t r) (trees-items ts)

pub entries-pairs : (es : Entries) → entries (pairs es) ≡ es
entries-pairs no_entries = refl
entries-pairs (entry k v es) = ap (λ r. entry k v r) (entries-pairs es)

pub trees_depth-push : (ts : List Tree) (t : Tree) → trees_depth (trees (ts ++ t ∷ [])) ≡ max (trees_depth (trees ts)) (depth t)
trees_depth-push [] t = omega arith
trees_depth-push (s ∷ ts) t = omega (arith, trees_depth-push ts t)

pub entries_depth-push : (es : List (Tree × Tree)) (e : Tree × Tree) → entries_depth (entries (es ++ e ∷ [])) ≡ max (max (entries_depth (entries es)) (depth e.0)) (depth e.1)
entries_depth-push [] e = omega arith
entries_depth-push (d ∷ es) e = omega (arith, entries_depth-push es e)
