-- What a view shows: a tree, the place of its node, and whether the places of the nodes below count on.
use Rattle.std.specs.Prelude.{ℕ, Bool, ◌+◌, if◌then◌else◌, true, false, List, [], ◌∷◌, Option, option_map}
use Rattle.sw_tree.specs.Tree.{Tree, size, items_at, pairs_at}

pub record Seen : Type 0 where
  pub tree : Tree
  pub place : ℕ
  pub counts : Bool

-- the place of the node that has that number in the tree
abbrev pub place_at : Seen → ℕ → ℕ
place_at s k = if s.counts then s.place + k else s.place

-- the place behind a tree
abbrev pub behind : Bool → ℕ → Tree → ℕ
behind true place t = place + size t
behind false place t = place

-- trees one after another, the first at that place
abbrev pub row : Bool → ℕ → List Tree → List Seen
row counts place [] = []
row counts place (t ∷ ts) = record { tree = t; place = place; counts = counts } ∷ row counts (behind counts place t) ts

abbrev pub entry_row : Bool → ℕ → List (Tree × Tree) → List (Seen × Seen)
entry_row counts place [] = []
entry_row counts place (e ∷ es) =
    (record { tree = e.0; place = place; counts = counts }, record { tree = e.1; place = behind counts place e.0; counts = counts })
    ∷ entry_row counts (behind counts (behind counts place e.0) e.1) es

-- the items of a list
abbrev pub items_seen : Seen → Option (List Seen)
items_seen s = option_map (row s.counts (place_at s 1)) (items_at s.tree)

-- the entries of a map
abbrev pub entries_seen : Seen → Option (List (Seen × Seen))
entries_seen s = option_map (entry_row s.counts (place_at s 1)) (pairs_at s.tree)
