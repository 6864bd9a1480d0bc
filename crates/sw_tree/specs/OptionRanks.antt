-- The order of options.
use Rattle.std.specs.Prelude.{suc, Option, Some, None}
use Rattle.std.specs.Option.{option_cmp}
use Rattle.sw_tree.specs.Meaning.{Meaning, case}
use Rattle.sw_tree.specs.Ranks.{Order}

abbrev pub option_of : Meaning → Option Meaning
option_of (case (suc n) v) = Some v
option_of _ = None

-- nothing comes before every value
abbrev pub option_order : Order → Order
option_order R x y = option_cmp R (option_of x) (option_of y)
