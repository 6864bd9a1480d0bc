-- What a view of a document shows.
use Rattle.std.specs.Prelude.{ℕ, Bool, true, false, drop}
use Rattle.sw_tree.specs.Tree.{Tree}
use Rattle.sw_tree.specs.Seen.{Seen, place_at}
use Rattle.sw_tree.specs.declared.view.View.{View}
use Rattle.sw_tree.specs.Inner.Cells.{Store, forest, first}
use Rattle.sw_tree.specs.Inner.Sheet.{sheet_store}

-- a node that counts stands where its cell does
abbrev pub place_in : Bool → ℕ → ℕ → ℕ
place_in true fixed at = at
place_in false fixed at = fixed

abbrev pub store_of : View → Store
store_of v = sheet_store v.input.now v.sheet.now

unfoldable pub seen : View → Seen
seen v =
    record {
      tree = first (forest (store_of v) (drop v.at v.sheet.now.cells.items));
      place = place_in v.counts v.fixed v.at;
      counts = v.counts;
    }

-- the tree that a view means
abbrev pub tree_of : View → Tree
tree_of v = (seen v).tree

-- the place of the node that has that number in the view's tree
abbrev pub place_of : View → ℕ → ℕ
place_of v k = place_at (seen v) k
