-- The text of a path from an expression to one below it: that of steps to items.
use Rattle.std.specs.Prelude.{ℕ, List, map}
use Rattle.sw_tree.specs.PathText as tree
use Rattle.sw_tree.specs.declared.path.Step.TheVariants.{Item}

abbrev pub path_text : List ℕ → List ℕ
path_text ns = tree.path_text (map Item ns)
