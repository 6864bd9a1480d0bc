-- What a node means.
use Rattle.std.specs.Prelude.{ℕ, ℤ, List, Bool, [], ◌∷◌, suc, max, Option, Some, None, length, ◌+◌}
use Rattle.sw_tree.specs.declared.mode.Kind.{Kind}
use Rattle.sw_tree.specs.declared.mode.Kind.TheVariants as kind

mutual
  pub data Tree : Type 0 where
    null : Tree
    truth : Bool → Tree
    int : ℤ → Tree
    text : List ℕ → Tree
    bytes : List ℕ → Tree
    list : Trees → Tree
    map : Entries → Tree

  pub data Trees : Type 0 where
    no_trees : Trees
    tree : Tree → Trees → Trees

  pub data Entries : Type 0 where
    no_entries : Entries
    entry : Tree → Tree → Entries → Entries

abbrev pub trees : List Tree → Trees
trees [] = no_trees
trees (t ∷ ts) = tree t (trees ts)

abbrev pub items : Trees → List Tree
items no_trees = []
items (tree t ts) = t ∷ items ts

abbrev pub entries : List (Tree × Tree) → Entries
entries [] = no_entries
entries (e ∷ es) = entry e.0 e.1 (entries es)

abbrev pub pairs : Entries → List (Tree × Tree)
pairs no_entries = []
pairs (entry k v es) = (k, v) ∷ pairs es

-- how many levels a tree has
abbrev mutual
  pub depth : Tree → ℕ
  depth null = 0
  depth (truth b) = 0
  depth (int n) = 0
  depth (text s) = 0
  depth (bytes s) = 1
  depth (list ts) = suc (trees_depth ts)
  depth (map es) = suc (entries_depth es)

  pub trees_depth : Trees → ℕ
  trees_depth no_trees = 0
  trees_depth (tree t ts) = max (depth t) (trees_depth ts)

  pub entries_depth : Entries → ℕ
  entries_depth no_entries = 0
  entries_depth (entry k v es) = max (max (depth k) (depth v)) (entries_depth es)

abbrev pub kind_of : Tree → Kind
kind_of null = kind.Null
kind_of (truth b) = kind.Bool
kind_of (int n) = kind.Int
kind_of (text s) = kind.Text
kind_of (bytes s) = kind.Bytes
kind_of (list ts) = kind.List
kind_of (map es) = kind.Map

abbrev pub items_at : Tree → Option (List Tree)
items_at (list ts) = Some (items ts)
items_at _ = None

abbrev pub pairs_at : Tree → Option (List (Tree × Tree))
pairs_at (map es) = Some (pairs es)
pairs_at _ = None

abbrev pub text_at : Tree → Option (List ℕ)
text_at (text s) = Some s
text_at _ = None

abbrev pub truth_at : Tree → Option Bool
truth_at (truth b) = Some b
truth_at _ = None

abbrev pub int_at : Tree → Option ℤ
int_at (int n) = Some n
int_at _ = None

abbrev pub len_of : Tree → ℕ
len_of (list ts) = length (items ts)
len_of (map es) = length (pairs es)
len_of (bytes s) = length s
len_of _ = 0

-- how many nodes a tree has
abbrev mutual
  pub size : Tree → ℕ
  size null = 1
  size (truth b) = 1
  size (int n) = 1
  size (text s) = 1
  size (bytes s) = 1
  size (list ts) = suc (trees_size ts)
  size (map es) = suc (entries_size es)

  pub trees_size : Trees → ℕ
  trees_size no_trees = 0
  trees_size (tree t ts) = size t + trees_size ts

  pub entries_size : Entries → ℕ
  entries_size no_entries = 0
  entries_size (entry k v es) = size k + size v + entries_size es

abbrev pub bytes_at : Tree → Option (List ℕ)
bytes_at (bytes s) = Some s
bytes_at _ = None

-- keys and values by turns, as entries
abbrev pub turns : List Tree → List (Tree × Tree)
turns (k ∷ v ∷ ts) = (k, v) ∷ turns ts
turns _ = []

-- how many bytes the texts and byte strings of a tree have together, those of keys included
abbrev mutual
  pub content_len : Tree → ℕ
  content_len null = 0
  content_len (truth b) = 0
  content_len (int n) = 0
  content_len (text s) = length s
  content_len (bytes s) = length s
  content_len (list ts) = trees_content_len ts
  content_len (map es) = entries_content_len es

  pub trees_content_len : Trees → ℕ
  trees_content_len no_trees = 0
  trees_content_len (tree t ts) = content_len t + trees_content_len ts

  pub entries_content_len : Entries → ℕ
  entries_content_len no_entries = 0
  entries_content_len (entry k v es) = content_len k + content_len v + entries_content_len es

-- the keys and values of entries, by turns
abbrev pub by_turns : List (Tree × Tree) → List Tree
by_turns [] = []
by_turns (e ∷ es) = e.0 ∷ e.1 ∷ by_turns es
