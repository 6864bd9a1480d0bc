-- An order from the other end, as that of priorities, of which the greater comes first.
use Rattle.sw_tree.specs.Ranks.{Order}

abbrev pub backwards : Order → Order
backwards R x y = R y x
