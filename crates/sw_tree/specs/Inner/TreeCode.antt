-- How the logic stores a tree.
use Rattle.std.specs.Prelude.{ℕ, List, [], ◌∷◌, ◌≡◌, pos, negsuc, true, false, zero, suc}
use base.Stored.{Gv, gnil, gnum, gcons, num, Coded}
use Rattle.std.proofs.Common.{refl, ap, sym, ◌∙◌}
use Rattle.sw_tree.specs.Tree.{Tree, null, truth, int, text, bytes, list, map, Trees, no_trees, tree, Entries, no_entries, entry}

abbrev code_text : List ℕ → Gv
code_text [] = gnil
code_text (b ∷ bs) = gcons (gnum b) (code_text bs)

abbrev text_at : Gv → List ℕ
text_at gnil = []
text_at (gnum n) = []
text_at (gcons a b) = num a ∷ text_at b

text_back : (s : List ℕ) → text_at (code_text s) ≡ s
text_back [] = refl
text_back (b ∷ bs) = ap (λ r. b ∷ r) (text_back bs)

abbrev mutual
  pub tree_code : Tree → Gv
  tree_code null = gnil
  tree_code (truth true) = gnum 1
  tree_code (truth false) = gnum 0
  tree_code (int (pos n)) = gcons (gnum 0) (gnum n)
  tree_code (int (negsuc n)) = gcons (gnum 1) (gnum n)
  tree_code (text s) = gcons (gnum 2) (code_text s)
  tree_code (bytes s) = gcons (gnum 3) (code_text s)
  tree_code (list ts) = gcons (gnum 4) (trees_code ts)
  tree_code (map es) = gcons (gnum 5) (entries_code es)

  pub trees_code : Trees → Gv
  trees_code no_trees = gnil
  trees_code (tree t ts) = gcons (tree_code t) (trees_code ts)

  pub entries_code : Entries → Gv
  entries_code no_entries = gnil
  entries_code (entry k v es) = gcons (gcons (tree_code k) (tree_code v)) (entries_code es)

abbrev mutual
  tree_at : Gv → Tree
  tree_at gnil = null
  tree_at (gnum zero) = truth false
  tree_at (gnum (suc n)) = truth true
  tree_at (gcons (gnum zero) b) = int (pos (num b))
  tree_at (gcons (gnum (suc zero)) b) = int (negsuc (num b))
  tree_at (gcons (gnum (suc (suc zero))) b) = text (text_at b)
  tree_at (gcons (gnum (suc (suc (suc zero)))) b) = bytes (text_at b)
  tree_at (gcons (gnum (suc (suc (suc (suc zero))))) b) = list (trees_at b)
  tree_at (gcons (gnum (suc (suc (suc (suc (suc n)))))) b) = map (entries_at b)
  tree_at (gcons gnil b) = null
  tree_at (gcons (gcons c d) b) = null

  trees_at : Gv → Trees
  trees_at gnil = no_trees
  trees_at (gnum n) = no_trees
  trees_at (gcons a b) = tree (tree_at a) (trees_at b)

  entries_at : Gv → Entries
  entries_at gnil = no_entries
  entries_at (gnum n) = no_entries
  entries_at (gcons (gcons a b) c) = entry (tree_at a) (tree_at b) (entries_at c)
  entries_at (gcons gnil c) = no_entries
  entries_at (gcons (gnum n) c) = no_entries

mutual
  tree_back : (t : Tree) → tree_at (tree_code t) ≡ t
  tree_back null = refl
  tree_back (truth true) = refl
  tree_back (truth false) = refl
  tree_back (int (pos n)) = refl
  tree_back (int (negsuc n)) = refl
  tree_back (text s) = ap text (text_back s)
  tree_back (bytes s) = ap bytes (text_back s)
  tree_back (list ts) = ap list (trees_back ts)
  tree_back (map es) = ap map (entries_back es)

  trees_back : (ts : Trees) → trees_at (trees_code ts) ≡ ts
  trees_back no_trees = refl
  trees_back (tree t ts) = λ i. tree (tree_back t i) (trees_back ts i)

  entries_back : (es : Entries) → entries_at (entries_code es) ≡ es
  entries_back no_entries = refl
  entries_back (entry k v es) = λ i. entry (tree_back k i) (tree_back v i) (entries_back es i)

pub tree_inj : (s t : Tree) → tree_code s ≡ tree_code t → s ≡ t
tree_inj s t p = sym (tree_back s) ∙ ap tree_at p ∙ tree_back t

abbrev pub coded_tree : Coded Tree
coded_tree = record { code = tree_code; inj = tree_inj }
