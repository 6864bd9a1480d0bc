-- A head that the code reads, as a head.
use Rattle.std.specs.Prelude.{false, true, pos, negsuc}
use Rattle.sw_tree.specs.Tree.{null, truth, int, text, bytes}
use Rattle.sw_compact.specs.Head as front
use Rattle.sw_compact.specs.declared.head.Head.{Head}
use Rattle.sw_compact.specs.declared.head.Head.TheVariants.{Null, Truth, Natural, Negative, Text, Bytes, List, Map}

abbrev pub head_of : Head → front.Head
head_of Null = front.leaf null
head_of (Truth b) = front.leaf (truth b)
head_of (Natural n) = front.leaf (int (pos n))
head_of (Negative n) = front.leaf (int (negsuc n))
head_of (Text s) = front.leaf (text s.now)
head_of (Bytes s) = front.leaf (bytes s.now)
head_of (List n) = front.opens false n
head_of (Map n) = front.opens true n
