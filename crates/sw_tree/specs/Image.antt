-- What a wire gives back of a tree that it was given.
--
-- On the compact wire that is the tree. On JSON a byte string in value place becomes the list of its numbers. A key that is
-- a text stays, one that is a number or a truth value becomes its text, and one of another kind has no image, nor has the map.
use Rattle.std.specs.Prelude.{ℕ, List, Bool, true, false, codes, pos, [], ◌∷◌, Option, Some, None, option_map}
use Rattle.std.specs.Fmt.{signed_decimal}
use Rattle.sw_tree.specs.declared.mode.WireKind.{WireKind}
use Rattle.sw_tree.specs.declared.mode.WireKind.TheVariants.{Json, Compact}
use Rattle.sw_tree.specs.declared.mode.Place.{Place}
use Rattle.sw_tree.specs.declared.mode.Place.TheVariants.{Value, Key}
use Rattle.sw_tree.specs.Tree.{int, Trees, no_trees, tree, Tree, truth, text, Entries, entry, null, bytes, list, map, no_entries}

abbrev pub bool_text : Bool → List ℕ
bool_text true = codes "true"
bool_text false = codes "false"

abbrev pub numbers : List ℕ → Trees
numbers [] = no_trees
numbers (b ∷ bs) = tree (int (pos b)) (numbers bs)

abbrev pub key_image : Tree → Option Tree
key_image (text s) = Some (text s)
key_image (int n) = Some (text (signed_decimal n))
key_image (truth b) = Some (text (bool_text b))
key_image _ = None

abbrev pub next_tree : Option Tree → Option Trees → Option Trees
next_tree (Some t) (Some ts) = Some (tree t ts)
next_tree _ _ = None

abbrev pub next_entry : Option Tree → Option Tree → Option Entries → Option Entries
next_entry (Some k) (Some v) (Some es) = Some (entry k v es)
next_entry _ _ _ = None

abbrev mutual
  pub value_image : Tree → Option Tree
  value_image null = Some null
  value_image (truth b) = Some (truth b)
  value_image (int n) = Some (int n)
  value_image (text s) = Some (text s)
  value_image (bytes s) = Some (list (numbers s))
  value_image (list ts) = option_map list (trees_image ts)
  value_image (map es) = option_map map (entries_image es)

  pub trees_image : Trees → Option Trees
  trees_image no_trees = Some no_trees
  trees_image (tree t ts) = next_tree (value_image t) (trees_image ts)

  pub entries_image : Entries → Option Entries
  entries_image no_entries = Some no_entries
  entries_image (entry k v es) = next_entry (key_image k) (value_image v) (entries_image es)

abbrev pub image : WireKind → Place → Tree → Option Tree
image Compact place t = Some t
image Json Value t = value_image t
image Json Key t = key_image t
