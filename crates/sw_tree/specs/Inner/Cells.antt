-- What a list of cells means.
use Rattle.std.specs.Prelude.{ℕ, ℤ, List, slice_range, ◌+◌, ◌*◌, ◌^◌, pos, negsuc, take, get_or, [], ◌∷◌, drop, ◌≤◌, length, ◌<◌, ◌≡◌}
use Rattle.std.specs.Str.{IsUtf8}
use Rattle.sw_tree.specs.Tree.{Tree, trees, entries, turns, depth}
use Rattle.sw_tree.specs.Tree as tree
use Rattle.sw_tree.specs.Proper.{IsProper}
use Rattle.sw_tree.specs.declared.cell.Cell.{Cell}
use Rattle.sw_tree.specs.declared.cell.Span.{Span}
use Rattle.sw_tree.specs.declared.cell.Halves.{Halves}
use Rattle.sw_tree.specs.declared.cell.Cell.TheVariants.{List as Items, Map, Null, Bool, Natural, Negative, Wide, Text, Copied, Bytes, CopiedBytes}

-- what cells point into
pub record Store : Type 0 where
  pub input : List ℕ
  pub side : List ℕ
  pub wides : List ℤ

abbrev pub part : List ℕ → Span → List ℕ
part source s = slice_range source s.start s.end

-- the number that two halves make
abbrev pub halves_number : Halves → ℕ
halves_number h = h.high * 2 ^ 32 + h.low

-- how many of the trees behind a cell are its children
abbrev pub arity : Cell → ℕ
arity (Items r) = r.count
arity (Map r) = r.count + r.count
arity _ = 0

-- how many cells are below a cell
abbrev pub below : Cell → ℕ
below (Items r) = r.below
below (Map r) = r.below
below _ = 0

-- the tree of a cell, from the trees behind it
abbrev pub tree_at : Store → Cell → List Tree → Tree
tree_at s Null ts = tree.null
tree_at s (Bool b) ts = tree.truth b
tree_at s (Natural h) ts = tree.int (pos (halves_number h))
tree_at s (Negative h) ts = tree.int (negsuc (halves_number h))
tree_at s (Wide k) ts = tree.int (get_or s.wides k (pos 0))
tree_at s (Text p) ts = tree.text (part s.input p)
tree_at s (Copied p) ts = tree.text (part s.side p)
tree_at s (Bytes p) ts = tree.bytes (part s.input p)
tree_at s (CopiedBytes p) ts = tree.bytes (part s.side p)
tree_at s (Items r) ts = tree.list (trees (take r.count ts))
tree_at s (Map r) ts = tree.map (entries (turns (take (r.count + r.count) ts)))

-- the trees that the cells mean, one after another
unfoldable pub forest : Store → List Cell → List Tree
forest s [] = []
forest s (c ∷ cs) = tree_at s c (forest s cs) ∷ drop (arity c) (forest s cs)

pub record IsPart (source : List ℕ) (p : Span) : Type 0 where
  pub ordered : p.start ≤ p.end
  pub inside : p.end ≤ length source

pub record IsText (source : List ℕ) (p : Span) : Type 0 where
  pub lies : IsPart source p
  pub utf8 : IsUtf8 (part source p)

abbrev pub IsFine : Store → Cell → Type 0
IsFine s (Wide k) = k < length s.wides
IsFine s (Text p) = IsText s.input p
IsFine s (Copied p) = IsText s.side p
IsFine s (Bytes p) = IsPart s.input p
IsFine s (CopiedBytes p) = IsPart s.side p
IsFine s _ = Unit {0}

-- a cell fits the cells behind it
pub record Fits (s : Store) (c : Cell) (cs : List Cell) : Type 0 where
  pub fine : IsFine s c
  pub enough : arity c ≤ length (forest s cs)
  pub inside : below c ≤ length cs
  pub shallow : depth (tree_at s c (forest s cs)) ≤ 128
  pub proper : IsProper (tree_at s c (forest s cs))
  pub skips : forest s (drop (below c) cs) ≡ drop (arity c) (forest s cs)

abbrev pub Formed : Store → List Cell → Type 0
Formed s [] = Unit {0}
Formed s (c ∷ cs) = Fits s c cs × Formed s cs

abbrev pub first : List Tree → Tree
first [] = tree.null
first (t ∷ ts) = t
