-- A map as the list of its entries in the order of its keys: each entry is a list of two, its key and its value, both in value place.
use Rattle.std.specs.Prelude.{List, [], ◌∷◌}
use Rattle.sw_tree.specs.Ranks.{Order}
use Rattle.sw_tree.specs.Sorted.{by_first, value_replaced}
use Rattle.sw_elem.specs.Equations.{Writes, Reads, Spots, Skips}
use Rattle.sw_core.specs.OrderedMap.{ordered_reads}
use Rattle.sw_core.specs.Parts.{Reading, reading}
use Rattle.sw_core.specs.Tuple.{tuple_writes, tuple_reads, tuple_spot, tuple_skips}
use Rattle.sw_core.specs.Vec.{list_writes, list_reads, list_spot, list_skips}

abbrev pub map_list_writes : Writes → Writes → Writes
map_list_writes k w = list_writes (tuple_writes (k ∷ w ∷ []))

module _ (r : Reads) (s : Spots) (k : Skips) (q : Reads) (z : Spots) (l : Skips) where
  -- the key, then the value
  abbrev pub key_and_value : List Reading
  key_and_value = reading r s k ∷ reading q z l ∷ []

  -- the list of the entries, those with equal keys too
  abbrev pub listed_reads : Reads
  listed_reads = list_reads (tuple_reads key_and_value) (tuple_spot key_and_value) (tuple_skips key_and_value)

  abbrev pub map_list_spot : Spots
  map_list_spot = list_spot (tuple_reads key_and_value) (tuple_spot key_and_value) (tuple_skips key_and_value)

  abbrev pub map_list_skips : Skips
  map_list_skips = list_skips (tuple_reads key_and_value) (tuple_spot key_and_value) (tuple_skips key_and_value)

-- it is put in order: of equal keys the last value stays
abbrev pub map_list_reads : Order → Reads → Spots → Skips → Reads → Spots → Skips → Reads
map_list_reads R r s k q z l = ordered_reads (by_first R) value_replaced (listed_reads r s k q z l)
