-- One item of a set by itself, or its items in ascending order as a list.
use Rattle.sw_tree.specs.Ranks.{Order}
use Rattle.sw_tree.specs.Sorted.{old_stays}
use Rattle.sw_elem.specs.Equations.{Reads, Spots, Skips}
use Rattle.sw_core.specs.OrderedMap.{ordered_reads}
use Rattle.sw_policy.specs.OneOrMany.{one_or_many_reads}

-- one or many items put in order; of equal items the first stays
abbrev pub one_or_many_set_reads : Order → Reads → Spots → Skips → Reads
one_or_many_set_reads R r s k = ordered_reads R old_stays (one_or_many_reads r s k)
