-- A set: its items are written in ascending order as a list; of equal items that are read, the first stays.
use Rattle.sw_tree.specs.Ranks.{Order}
use Rattle.sw_tree.specs.Sorted.{old_stays}
use Rattle.sw_elem.specs.Equations.{Reads, Spots, Skips}
use Rattle.sw_core.specs.OrderedMap.{ordered_reads}
use Rattle.sw_core.specs.Vec.{list_reads}

abbrev pub set_reads : Order → Reads → Spots → Skips → Reads
set_reads R r s k = ordered_reads R old_stays (list_reads r s k)
