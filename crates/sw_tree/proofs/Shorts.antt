-- The trees that cells mean are short, where their input, the text beside it and the cells are.
use Rattle.std.proofs.Common.{ℕ, zero, suc, ◌+◌, ◌-◌, ◌≤◌, List, [], ◌∷◌, ◌++◌, length, take, drop, arith, length-drop}
use Rattle.sw_tree.proofs.BuilderLemmas.{forest_le}
use Rattle.sw_tree.specs.declared.cell.Cell.{Cell}
use Rattle.sw_tree.specs.declared.cell.Span.{Span}
use Rattle.sw_tree.specs.declared.cell.Cell.TheVariants.{Null, Bool, Natural, Negative, Wide, Text, Copied, Bytes, CopiedBytes, List as Items, Map}
use Rattle.sw_tree.specs.Tree.{Tree, trees, entries, turns}
use Rattle.sw_tree.specs.Laws.Tree.{items-trees, pairs-entries}
use Rattle.sw_tree.specs.Short.{IsLength, IsShort, AreShort, AreShortEntries}
use Rattle.sw_tree.specs.Inner.Cells.{Store, part, arity, tree_at, forest, first}

pub short-push : (ts : List Tree) (t : Tree) → AreShort (trees ts) → IsShort t → AreShort (trees (ts ++ t ∷ []))
short-push [] t h p = (p, tt)
short-push (u ∷ ts) t h p = (h.0, short-push ts t h.1 p)

pub short_entries-push : (es : List (Tree × Tree)) (e : Tree × Tree) → AreShortEntries (entries es) → IsShort e.0 → IsShort e.1 → AreShortEntries (entries (es ++ e ∷ []))
short_entries-push [] e h key value = (key, value, tt)
short_entries-push (f ∷ es) e h key value = (h.0, h.1, short_entries-push es e h.2 key value)

short-drop : (n : ℕ) (ts : List Tree) → AreShort (trees ts) → AreShort (trees (drop n ts))
short-drop zero ts h = h
short-drop (suc n) [] h = tt
short-drop (suc n) (t ∷ ts) h = short-drop n ts h.1

short-take : (n : ℕ) (ts : List Tree) → AreShort (trees ts) → AreShort (trees (take n ts))
short-take zero ts h = tt
short-take (suc n) [] h = tt
short-take (suc n) (t ∷ ts) h = (h.0, short-take n ts h.1)

short-turns : (ts : List Tree) → AreShort (trees ts) → AreShortEntries (entries (turns ts))
short-turns [] h = tt
short-turns (k ∷ []) h = tt
short-turns (k ∷ v ∷ ts) h = (h.0, h.1.0, short-turns ts h.1.1)

take_length : {A : Type 0} (n : ℕ) (xs : List A) → length (take n xs) ≤ length xs
take_length zero xs = omega arith
take_length (suc n) [] = omega arith
take_length (suc n) (x ∷ xs) = omega (arith, take_length n xs)

turns_most : (ts : List Tree) → length (turns ts) ≤ length ts
turns_most [] = omega arith
turns_most (k ∷ []) = omega arith
turns_most (k ∷ v ∷ ts) = omega (arith, turns_most ts)

part_length : (s : List ℕ) (p : Span) → IsLength (length s) → IsLength (length (part s p))
part_length s p h = omega (arith, take_length (p.end - p.start) (drop p.start s), length-drop p.start s)

module _ (s : Store) (input : IsLength (length s.input)) (side : IsLength (length s.side)) where
  cell_short : (c : Cell) (ts : List Tree) → IsLength (length ts) → AreShort (trees ts) → IsShort (tree_at s c ts)
  cell_short Null ts n h = tt
  cell_short (Bool b) ts n h = tt
  cell_short (Natural z) ts n h = tt
  cell_short (Negative z) ts n h = tt
  cell_short (Wide k) ts n h = tt
  cell_short (Text p) ts n h = part_length s.input p input
  cell_short (Copied p) ts n h = part_length s.side p side
  cell_short (Bytes p) ts n h = part_length s.input p input
  cell_short (CopiedBytes p) ts n h = part_length s.side p side
  cell_short (Items r) ts n h = let l : IsLength (length (take r.count ts)) = omega (arith, take_length r.count ts) in (rw (items-trees (take r.count ts)) l, short-take r.count ts h)
  cell_short (Map r) ts n h =
      let k = r.count + r.count in
      let l : IsLength (length (turns (take k ts))) = omega (arith, take_length k ts, turns_most (take k ts)) in
      (rw (pairs-entries (turns (take k ts))) l, short-turns (take k ts) (short-take k ts h))

  pub forest_short : (cs : List Cell) → IsLength (length cs) → AreShort (trees (forest s cs))
  unfolding forest
  forest_short [] n = tt
  forest_short (c ∷ cs) n =
      let h = forest_short cs (omega arith) in
      let l : IsLength (length (forest s cs)) = omega (arith, forest_le s cs) in
      (cell_short c (forest s cs) l h, short-drop (arity c) (forest s cs) h)

first_short : (ts : List Tree) → AreShort (trees ts) → IsShort (first ts)
first_short [] h = tt
first_short (t ∷ ts) h = h.0

-- and so is the one at a cell
pub short_at : (s : Store) (cs : List Cell) (k : ℕ) → IsLength (length s.input) → IsLength (length s.side) → IsLength (length cs) → IsShort (first (forest s (drop k cs)))
short_at s cs k input side n = let l : IsLength (length (drop k cs)) = omega (arith, length-drop k cs) in first_short (forest s (drop k cs)) (forest_short s input side (drop k cs) l)
