-- The tree of one level, whose children are already seen as trees.
use Rattle.std.specs.Prelude.{Bool, string_bytes, ℕ, ◌≡◌, true, false}
use Rattle.sw_tree.specs.Tree.{Tree, null, truth, int, text, bytes, list, map, trees, entries, depth}
use Rattle.sw_tree.specs.Foreign.{are_plain, are_plain_keyed}
use Rattle.sw_tree.specs.declared.node.Shape.{Shape}
use Rattle.sw_tree.specs.declared.node.Shape.TheVariants as shape

abbrev pub shape_tree : Shape → Tree
shape_tree shape.Null = null
shape_tree (shape.Bool b) = truth b
shape_tree (shape.Int n) = int n
shape_tree (shape.Text s) = text (string_bytes s)
shape_tree (shape.Bytes s) = bytes s.items
shape_tree (shape.List v) = list (trees v.items)
shape_tree (shape.Map v) = map (entries v.items)
shape_tree (shape.Kept k) = k.value

-- that a count of levels is the tree's, but where a document is kept, whose levels aren't counted ahead
abbrev pub Counts : Shape → ℕ → Type 0
Counts shape.Null n = n ≡ 0
Counts (shape.Bool b) n = n ≡ 0
Counts (shape.Int z) n = n ≡ 0
Counts (shape.Text s) n = n ≡ 0
Counts (shape.Bytes s) n = n ≡ 1
Counts (shape.List v) n = n ≡ depth (list (trees v.items))
Counts (shape.Map v) n = n ≡ depth (map (entries v.items))
Counts (shape.Kept k) n = Unit {0}

-- that a mark says whether the tree is plain, but where a document is kept, which isn't looked through ahead
abbrev pub IsMarked : Shape → Bool → Type 0
IsMarked shape.Null b = b ≡ true
IsMarked (shape.Bool c) b = b ≡ true
IsMarked (shape.Int z) b = b ≡ true
IsMarked (shape.Text s) b = b ≡ true
IsMarked (shape.Bytes s) b = b ≡ false
IsMarked (shape.List v) b = b ≡ are_plain (trees v.items)
IsMarked (shape.Map v) b = b ≡ are_plain_keyed (entries v.items)
IsMarked (shape.Kept k) b = Unit {0}
