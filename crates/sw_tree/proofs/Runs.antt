-- Trees that stand one after another have a run of cells of their own.
use Rattle.std.proofs.Common.{ℕ, zero, suc, ◌+◌, ◌≤◌, ◌≡◌, List, [], ◌∷◌, ◌++◌, length, take, drop, refl, sym, ap, arith, length-drop}
use Rattle.std.proofs.lemmas.List.{take-take, length-take-le}
use Rattle.std.proofs.Math.ListN.{drop_of_length-le}
use Rattle.sw_tree.specs.declared.cell.Cell.{Cell}
use Rattle.sw_tree.specs.declared.cell.Cell.TheVariants.{Null, Bool, Natural, Negative, Wide, Text, Copied, Bytes, CopiedBytes, List as Items, Map}
use Rattle.sw_tree.specs.Tree as tree
use Rattle.sw_tree.specs.Tree.{Tree, depth, trees, entries, turns, size, trees_size}
use Rattle.sw_tree.specs.Proper.{IsProper}
use Rattle.sw_tree.specs.Inner.Cells.{Store, Formed, Fits, forest, arity, below, tree_at}
use Rattle.sw_tree.proofs.CellLemmas.{Formed-drop}
use Rattle.sw_tree.proofs.BuilderLemmas.{forest-append, Formed-append}
use Rattle.sw_tree.proofs.Sizes.{below_size, size_at}

-- that many cells mean these trees alone
pub record Run (s : Store) (cs : List Cell) (n : ℕ) (ts : List Tree) : Type 0 where
  pub formed : Formed s (take n cs)
  pub means : forest s (take n cs) ≡ ts

take-add : {A : Type 0} (n m : ℕ) (xs : List A) → take (n + m) xs ≡ take n xs ++ take m (drop n xs)
take-add zero m xs = let e : zero + m ≡ m = omega arith in rw e refl
take-add (suc n) zero [] = let e : suc n + zero ≡ suc (n + zero) = omega arith in rw e refl
take-add (suc n) (suc m) [] = let e : suc n + suc m ≡ suc (n + suc m) = omega arith in rw e refl
take-add (suc n) m (x ∷ xs) = let e : suc n + m ≡ suc (n + m) = omega arith in rw (e, take-add n m xs) refl

tree_at-take : (s : Store) (c : Cell) (ts : List Tree) → tree_at s c (take (arity c) ts) ≡ tree_at s c ts
tree_at-take s Null ts = refl
tree_at-take s (Bool b) ts = refl
tree_at-take s (Natural z) ts = refl
tree_at-take s (Negative z) ts = refl
tree_at-take s (Wide k) ts = refl
tree_at-take s (Text p) ts = refl
tree_at-take s (Copied p) ts = refl
tree_at-take s (Bytes p) ts = refl
tree_at-take s (CopiedBytes p) ts = refl
tree_at-take s (Items r) ts = ap (λ (us : List Tree). tree.list (trees us)) (take-take r.count r.count ts (omega arith))
tree_at-take s (Map r) ts = ap (λ (us : List Tree). tree.map (entries (turns us))) (take-take (r.count + r.count) (r.count + r.count) ts (omega arith))

-- a cell and the run of its children
one_run : (s : Store) (c : Cell) (rest : List Cell) → Fits s c rest → Run s rest (below c) (take (arity c) (forest s rest)) → Run s (c ∷ rest) (suc (below c)) (tree_at s c (forest s rest) ∷ [])
unfolding forest
one_run s c rest h run =
    let f = forest s rest in
    let all : take (arity c) f ≡ forest s (take (below c) rest) = sym run.means in
    let is : tree_at s c (forest s (take (below c) rest)) ≡ tree_at s c (forest s rest) = rw run.means (tree_at-take s c f) in
    let n : length (take (arity c) f) ≡ arity c = length-take-le (arity c) f h.enough in
    let l : length (take (below c) rest) ≡ below c = length-take-le (below c) rest h.inside in
    let enough : arity c ≤ length (forest s (take (below c) rest)) = rw run.means (omega (arith, n)) in
    let none : drop (below c) (take (below c) rest) ≡ [] = drop_of_length-le (take (below c) rest) (omega (arith, l)) in
    let over : drop (arity c) (forest s (take (below c) rest)) ≡ [] = rw run.means (drop_of_length-le (take (arity c) f) (omega (arith, n))) in
    let shallow : depth (tree_at s c (forest s (take (below c) rest))) ≤ 128 = rw is h.shallow in
    let proper : IsProper (tree_at s c (forest s (take (below c) rest))) = rw is h.proper in
    record {
      formed = (record { fine = h.fine; enough = enough; inside = omega (arith, l); shallow = shallow; proper = proper; skips = rw (none, over) refl }, run.formed);
      means = rw (is, over) refl;
    }

nothing_run : (s : Store) (cs : List Cell) (n : ℕ) → n ≡ 0 → Run s cs n []
unfolding forest
nothing_run s cs n e = rw e (record { formed = tt; means = refl })

children_size : (s : Store) (c : Cell) (rest : List Cell) → Fits s c rest → Formed s rest → below c ≡ trees_size (trees (take (arity c) (forest s rest)))
children_size s c rest h f = omega (arith, below_size s c rest h f, size_at s c (forest s rest) h.enough)

two_runs : (s : Store) (c : Cell) (rest : List Cell) (m : ℕ) (t : Tree) (ts : List Tree) → Run s (c ∷ rest) (suc (below c)) (t ∷ []) → Run s (drop (below c) rest) m ts → Run s (c ∷ rest) (suc (below c) + m) (t ∷ ts)
two_runs s c rest m t ts one more =
    let e : take (suc (below c) + m) (c ∷ rest) ≡ take (suc (below c)) (c ∷ rest) ++ take m (drop (below c) rest) = take-add (suc (below c)) m (c ∷ rest) in
    record {
      formed = rw e (Formed-append s (take (suc (below c)) (c ∷ rest)) (take m (drop (below c) rest)) one.formed more.formed);
      means = rw (e, forest-append s (take (suc (below c)) (c ∷ rest)) (take m (drop (below c) rest)) one.formed, one.means, more.means) refl;
    }

-- the first trees of a forest, by how many cells there are at most
run_within : (most : ℕ) (s : Store) (cs : List Cell) (k n : ℕ) → length cs ≤ most → Formed s cs → k ≤ length (forest s cs) → n ≡ trees_size (trees (take k (forest s cs))) → Run s cs n (take k (forest s cs))
unfolding forest
run_within most s cs zero n few h le e = nothing_run s cs n e
run_within most s [] (suc k) n few h le e = absurd (omega arith)
run_within zero s (c ∷ rest) (suc k) n few h le e = absurd (omega arith)
run_within (suc most) s (c ∷ rest) (suc k) n few h le e =
    let kids = run_within most s rest (arity c) (below c) (omega arith) h.1 h.0.enough (children_size s c rest h.0 h.1) in
    let one = one_run s c rest h.0 kids in
    let m = trees_size (trees (take k (drop (arity c) (forest s rest)))) in
    let later : k ≤ length (forest s (drop (below c) rest)) = rw h.0.skips (omega arith) in
    let same : m ≡ trees_size (trees (take k (forest s (drop (below c) rest)))) = rw h.0.skips refl in
    let more = run_within most s (drop (below c) rest) k m (omega (arith, length-drop (below c) rest)) (Formed-drop s rest (below c) h.1) later same in
    let more2 : Run s (drop (below c) rest) m (take k (drop (arity c) (forest s rest))) = rw h.0.skips at more in
    let count : n ≡ suc (below c) + m = omega (arith, e, below_size s c rest h.0 h.1) in
    rw count (two_runs s c rest m (tree_at s c (forest s rest)) (take k (drop (arity c) (forest s rest))) one more2)

-- the cells of one tree
pub run_of : (s : Store) (c : Cell) (rest : List Cell) → Fits s c rest → Formed s rest → Run s (c ∷ rest) (suc (below c)) (tree_at s c (forest s rest) ∷ [])
run_of s c rest h f = one_run s c rest h (run_within (length rest) s rest (arity c) (below c) (omega arith) f h.enough (children_size s c rest h f))
