-- The order of lists and arrays.
use Rattle.std.specs.Prelude.{List, []}
use Rattle.std.specs.Cmp.Lexicographic.{slice_cmp}
use Rattle.sw_tree.specs.Meaning.{Meaning, list, parts}
use Rattle.sw_tree.specs.Ranks.{Order}

abbrev pub list_of : Meaning → List Meaning
list_of (list vs) = parts vs
list_of _ = []

-- by the first items that differ, and where there are none the shorter first
abbrev pub list_order : Order → Order
list_order R x y = slice_cmp R (list_of x) (list_of y)
