-- A set of pairs as the entries of a map: of equal pairs that are read, the first stays.
use Rattle.sw_tree.specs.PairRanks.{pair_order}
use Rattle.sw_tree.specs.Ranks.{Order}
use Rattle.sw_tree.specs.Sorted.{old_stays}
use Rattle.sw_elem.specs.Equations.{Reads, Spots, Skips}
use Rattle.sw_core.specs.Entries.{entries_reads}
use Rattle.sw_core.specs.OrderedMap.{ordered_reads}

abbrev pub pair_set_reads : Order → Order → Reads → Spots → Skips → Reads → Spots → Skips → Reads
pair_set_reads R S r s k q z l = ordered_reads (pair_order R S) old_stays (entries_reads r s k q z l)
