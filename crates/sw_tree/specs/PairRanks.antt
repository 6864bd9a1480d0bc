-- The order of pairs.
use Rattle.std.specs.Ordering.{ordering_then}
use Rattle.sw_tree.specs.Meaning.{Meaning, nothing, list, meaning}
use Rattle.sw_tree.specs.Ranks.{Order}

abbrev pub first : Meaning → Meaning
first (list (meaning a r)) = a
first _ = nothing

abbrev pub second : Meaning → Meaning
second (list (meaning a (meaning b r))) = b
second _ = nothing

-- by the first, and where those are equal by the second
abbrev pub pair_order : Order → Order → Order
pair_order R S x y = ordering_then (R (first x) (first y)) (S (second x) (second y))
