-- Whether all kinds of one set are in another.
use Rattle.std.specs.Prelude.{Bool, true, false, ◌&&◌}
use Rattle.sw_tree.specs.declared.kinds.Kinds.{Kinds}

abbrev pub implied : Bool → Bool → Bool
implied true y = y
implied false y = true

abbrev pub within : Kinds → Kinds → Bool
within a b =
    implied a.null b.null && implied a.truth b.truth && implied a.int b.int && implied a.text b.text && implied a.bytes b.bytes && implied a.list b.list && implied a.map b.map
