-- A map in the order of its keys: its entries are written in that order; of equal keys that are read, the last value stays.
use Rattle.sw_tree.specs.Meaning.{Meaning, list, meanings, parts}
use Rattle.sw_tree.specs.Ranks.{Order}
use Rattle.sw_tree.specs.Sorted.{Join, sorted, by_first, value_replaced}
use Rattle.sw_elem.specs.Equations.{Reads, Spots, Skips}
use Rattle.sw_elem.specs.Statements.{Norm}
use Rattle.sw_elem.specs.Lawful.{same_norm}
use Rattle.sw_elem.specs.Converted.{converted_reads}
use Rattle.sw_core.specs.Entries.{entries_reads, entries_norm}

-- the parts of a list, put in turn into an ascending one; what no list means is free
abbrev pub in_order : Order → Join → Meaning → Meaning
in_order R join (list vs) = list (meanings (sorted R join (parts vs)))
in_order R join v = v

-- a list is read, then put in order
abbrev pub ordered_reads : Order → Join → Reads → Reads
ordered_reads R join r = converted_reads (in_order R join) r

abbrev pub ordered_map_reads : Order → Reads → Spots → Skips → Reads → Spots → Skips → Reads
ordered_map_reads R r s k q z l = ordered_reads (by_first R) value_replaced (entries_reads r s k q z l)

-- the norm of each value; keys are exact where the map is sound
abbrev pub ordered_map_norm : Norm → Norm
ordered_map_norm n = entries_norm same_norm n
