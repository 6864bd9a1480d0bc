-- A list of values: its items are read and written in order, each in value place.
use Rattle.std.specs.Prelude.{map as list_map, Ok}
use Rattle.sw_tree.specs.Building.{within}
use Rattle.sw_tree.specs.Meaning.{Meaning, list, meanings, parts}
use Rattle.sw_tree.specs.Mode.{at_value}
use Rattle.sw_tree.specs.Steps.{bind, traverse}
use Rattle.sw_tree.specs.Tree.{trees, items, kind_of}
use Rattle.sw_tree.specs.Tree as node
use Rattle.sw_tree.specs.declared.fail.DeError.TheVariants as fail
use Rattle.sw_elem.specs.Equations.{Writes, Reads, Spots, Skips}
use Rattle.sw_elem.specs.Statements.{Norm}
use Rattle.sw_core.specs.Plans.{Plans, refused, plan_reads, plan_spot, plan_skips}
use Rattle.sw_core.specs.Rows.{reader, each_by}

-- the parts' trees in order, or the first refusal; what no list means is free
abbrev pub list_writes : Writes → Writes
list_writes w m (list vs) = bind (traverse (w (at_value m)) (parts vs)) (λ ts. within (node.list (trees ts)))
list_writes w m v = Ok node.null

-- all items in order
abbrev pub list_plan : Reads → Spots → Skips → Plans Meaning
list_plan r s k m (node.list ts) = record { readers = each_by (reader r s k (at_value m)) (items ts); makes = λ vs. Ok (list (meanings vs)) }
list_plan r s k m t = refused (fail.InvalidType (kind_of t))

abbrev pub list_reads : Reads → Spots → Skips → Reads
list_reads r s k = plan_reads (list_plan r s k)

abbrev pub list_spot : Reads → Spots → Skips → Spots
list_spot r s k = plan_spot (list_plan r s k)

abbrev pub list_skips : Reads → Spots → Skips → Skips
list_skips r s k = plan_skips (list_plan r s k)

-- the norm of each part
abbrev pub list_norm : Norm → Norm
list_norm n m (list vs) = list (meanings (list_map (n (at_value m)) (parts vs)))
list_norm n m v = v
