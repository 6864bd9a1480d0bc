-- What a node shows that is made by hand or one of a document, and what rows of such nodes show.
use Rattle.std.specs.Prelude.{List}
use Rattle.sw_tree.specs.Tree.{Tree}
use Rattle.sw_tree.specs.Inner.Seen.{trees_of, pairs_of}
use Rattle.sw_tree.specs.Inner.View.{tree_of}
use Rattle.sw_schema.specs.declared.part.Part.{Part}
use Rattle.sw_schema.specs.declared.part.Part.TheVariants as part
use Rattle.sw_schema.specs.declared.part.Row.{Row}
use Rattle.sw_schema.specs.declared.part.Row.TheVariants as row
use Rattle.sw_schema.specs.declared.part.EntryRow.{EntryRow}
use Rattle.sw_schema.specs.declared.part.EntryRow.TheVariants as entry_row

abbrev pub part_tree : Part → Tree
part_tree (part.Node n) = n.now
part_tree (part.View v) = tree_of v

abbrev pub row_trees : Row → List Tree
row_trees (row.Nodes s) = s.now
row_trees (row.Views i) = trees_of i

abbrev pub row_pairs : EntryRow → List (Tree × Tree)
row_pairs (entry_row.Nodes s) = s.now
row_pairs (entry_row.Views i) = pairs_of i
