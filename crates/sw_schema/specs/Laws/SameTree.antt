-- Trees are equal exactly where the test says that they are the same.
use Rattle.std.proofs.lemmas.Slice.Eq.{bytes_eq-Decides}
use Rattle.std.specs.Prelude.{bytes_eq, ◌≡◌, ℕ, ℤ, pos, negsuc, Bool, true, false, ◌&&◌, List}
use Rattle.std.proofs.Common.{refl, ap}
use Rattle.std.proofs.lemmas.Bool.{eqb-true, eq-eqb}
use Rattle.sw_tree.specs.Tree.{Tree, Trees, Entries, null, truth, int, text, bytes, list, map, no_trees, tree, no_entries, entry}
use Rattle.sw_schema.specs.SameTree.{same_truth, same_int, same_tree, same_trees, same_entries}

pub both : (a b : Bool) → (a && b) ≡ true → (a ≡ true) × (b ≡ true)
both true b p = (refl, p)
both false b p = absurd (cc)

pub bytes_eq-is : (s t : List ℕ) → bytes_eq s t ≡ true → s ≡ t
bytes_eq-is s t = (bytes_eq-Decides s t).0

pub bytes_eq-self : (s : List ℕ) → bytes_eq s s ≡ true
bytes_eq-self s = (bytes_eq-Decides s s).1 refl

same_truth-is : (a b : Bool) → same_truth a b ≡ true → a ≡ b
same_truth-is true true p = refl
same_truth-is true false p = absurd (cc)
same_truth-is false true p = absurd (cc)
same_truth-is false false p = refl

same_int-is : (a b : ℤ) → same_int a b ≡ true → a ≡ b
same_int-is (pos m) (pos n) p = ap pos (eqb-true m n p)
same_int-is (pos m) (negsuc n) p = absurd (cc)
same_int-is (negsuc m) (pos n) p = absurd (cc)
same_int-is (negsuc m) (negsuc n) p = ap negsuc (eqb-true m n p)

-- ---- what the test calls the same is equal
mutual
  pub same_tree-is : (s t : Tree) → same_tree s t ≡ true → s ≡ t
  same_tree-is null null p = refl
  same_tree-is null _ p = absurd (cc)
  same_tree-is (truth a) (truth b) p = ap truth (same_truth-is a b p)
  same_tree-is (truth a) _ p = absurd (cc)
  same_tree-is (int a) (int b) p = ap int (same_int-is a b p)
  same_tree-is (int a) _ p = absurd (cc)
  same_tree-is (text a) (text b) p = ap text (bytes_eq-is a b p)
  same_tree-is (text a) _ p = absurd (cc)
  same_tree-is (bytes a) (bytes b) p = ap bytes (bytes_eq-is a b p)
  same_tree-is (bytes a) _ p = absurd (cc)
  same_tree-is (list xs) (list ys) p = ap list (same_trees-is xs ys p)
  same_tree-is (list xs) _ p = absurd (cc)
  same_tree-is (map xs) (map ys) p = ap map (same_entries-is xs ys p)
  same_tree-is (map xs) _ p = absurd (cc)

  same_trees-is : (ss ts : Trees) → same_trees ss ts ≡ true → ss ≡ ts
  same_trees-is no_trees no_trees p = refl
  same_trees-is no_trees (tree u us) p = absurd (cc)
  same_trees-is (tree t ts) no_trees p = absurd (cc)
  same_trees-is (tree t ts) (tree u us) p =
      let h = both (same_tree t u) (same_trees ts us) p in
      let a = same_tree-is t u h.0 in
      let b = same_trees-is ts us h.1 in
      λ i. tree (a i) (b i)

  same_entries-is : (ds es : Entries) → same_entries ds es ≡ true → ds ≡ es
  same_entries-is no_entries no_entries p = refl
  same_entries-is no_entries (entry k v es) p = absurd (cc)
  same_entries-is (entry k v es) no_entries p = absurd (cc)
  same_entries-is (entry k v es) (entry l w fs) p =
      let h = both (same_tree k l) (same_tree v w && same_entries es fs) p in
      let g = both (same_tree v w) (same_entries es fs) h.1 in
      let a = same_tree-is k l h.0 in
      let b = same_tree-is v w g.0 in
      let c = same_entries-is es fs g.1 in
      λ i. entry (a i) (b i) (c i)

-- ---- and each tree is the same as itself
same_truth-self : (b : Bool) → same_truth b b ≡ true
same_truth-self true = refl
same_truth-self false = refl

same_int-self : (n : ℤ) → same_int n n ≡ true
same_int-self (pos n) = eq-eqb n n refl
same_int-self (negsuc n) = eq-eqb n n refl

mutual
  pub same_tree-self : (t : Tree) → same_tree t t ≡ true
  same_tree-self null = refl
  same_tree-self (truth b) = same_truth-self b
  same_tree-self (int n) = same_int-self n
  same_tree-self (text s) = bytes_eq-self s
  same_tree-self (bytes s) = bytes_eq-self s
  same_tree-self (list ts) = same_trees-self ts
  same_tree-self (map es) = same_entries-self es

  same_trees-self : (ts : Trees) → same_trees ts ts ≡ true
  same_trees-self no_trees = refl
  same_trees-self (tree t ts) = rw (same_tree-self t) (same_trees-self ts)

  same_entries-self : (es : Entries) → same_entries es es ≡ true
  same_entries-self no_entries = refl
  same_entries-self (entry k v es) = rw (same_tree-self k, same_tree-self v) (same_entries-self es)
