-- Whether two trees are the same, item by item and entry by entry, in order.
use Rattle.std.specs.Prelude.{ℤ, pos, negsuc, Bool, true, false, ◌&&◌, nat_eq, bytes_eq}
use Rattle.sw_tree.specs.Tree.{Tree, Trees, Entries, null, truth, int, text, bytes, list, map, no_trees, tree, no_entries, entry}

abbrev pub same_truth : Bool → Bool → Bool
same_truth true b = b
same_truth false true = false
same_truth false false = true

abbrev pub same_int : ℤ → ℤ → Bool
same_int (pos m) (pos n) = nat_eq m n
same_int (pos m) (negsuc n) = false
same_int (negsuc m) (pos n) = false
same_int (negsuc m) (negsuc n) = nat_eq m n

abbrev mutual
  pub same_tree : Tree → Tree → Bool
  same_tree null null = true
  same_tree null _ = false
  same_tree (truth a) (truth b) = same_truth a b
  same_tree (truth a) _ = false
  same_tree (int a) (int b) = same_int a b
  same_tree (int a) _ = false
  same_tree (text a) (text b) = bytes_eq a b
  same_tree (text a) _ = false
  same_tree (bytes a) (bytes b) = bytes_eq a b
  same_tree (bytes a) _ = false
  same_tree (list xs) (list ys) = same_trees xs ys
  same_tree (list xs) _ = false
  same_tree (map xs) (map ys) = same_entries xs ys
  same_tree (map xs) _ = false

  pub same_trees : Trees → Trees → Bool
  same_trees no_trees no_trees = true
  same_trees no_trees (tree u us) = false
  same_trees (tree t ts) no_trees = false
  same_trees (tree t ts) (tree u us) = same_tree t u && same_trees ts us

  pub same_entries : Entries → Entries → Bool
  same_entries no_entries no_entries = true
  same_entries no_entries (entry k v es) = false
  same_entries (entry k v es) no_entries = false
  same_entries (entry k v es) (entry l w fs) = same_tree k l && (same_tree v w && same_entries es fs)
