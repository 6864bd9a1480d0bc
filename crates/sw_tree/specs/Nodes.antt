-- The kinds of a tree's nodes by number: from 0 in preorder, a key before its value.
use Rattle.std.specs.Prelude.{List, [], ◌∷◌, ◌++◌, ◌≡◌, ℕ, Some, slice_get, ◌<◌, length, false}
use Rattle.sw_tree.specs.Placed.{Note}
use Rattle.sw_tree.specs.Tree.{Tree, Trees, Entries, null, truth, int, text, bytes, list, map, no_trees, tree, no_entries, entry}
use Rattle.sw_tree.specs.declared.mode.Kind.{Kind}
use Rattle.sw_tree.specs.declared.mode.Kind.TheVariants as kind
use Rattle.sw_tree.specs.declared.fail.DeError.TheVariants as fail

abbrev mutual
  pub kinds : Tree → List Kind
  kinds null = kind.Null ∷ []
  kinds (truth b) = kind.Bool ∷ []
  kinds (int n) = kind.Int ∷ []
  kinds (text s) = kind.Text ∷ []
  kinds (bytes s) = kind.Bytes ∷ []
  kinds (list ts) = kind.List ∷ trees_kinds ts
  kinds (map es) = kind.Map ∷ entries_kinds es

  pub trees_kinds : Trees → List Kind
  trees_kinds no_trees = []
  trees_kinds (tree t ts) = kinds t ++ trees_kinds ts

  pub entries_kinds : Entries → List Kind
  entries_kinds no_entries = []
  entries_kinds (entry k v es) = kinds k ++ (kinds v ++ entries_kinds es)

-- the node of that number has that kind
abbrev pub HasKind : List Kind → ℕ → Kind → Type 0
HasKind ks n k = slice_get ks n ≡ Some k

-- a note's node is one of them, and has the kind that the note says, where it doesn't come from inside a text
pub record IsNoteIn (ks : List Kind) (n : Note) : Type 0 where
  pub below : n.number < length ks
  pub kind : n.inside ≡ false → (k : Kind) → n.error ≡ fail.InvalidType k → HasKind ks n.number k
