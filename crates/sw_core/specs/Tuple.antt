-- A tuple: a list of as many items as it has parts, each read and written in value place by an adapter of its own.
use Rattle.std.specs.Prelude.{ℕ, List, [], ◌∷◌, length, ◌==◌, cond, Result, Ok, Err}
use Rattle.sw_tree.specs.Building.{within}
use Rattle.sw_tree.specs.Meaning.{Meaning, list, parts}
use Rattle.sw_tree.specs.Meant.{row}
use Rattle.sw_tree.specs.Mode.{at_value}
use Rattle.sw_tree.specs.Steps.{bind}
use Rattle.sw_tree.specs.Tree.{trees, items, kind_of}
use Rattle.sw_tree.specs.Tree as node
use Rattle.sw_tree.specs.declared.fail.DeError.{DeError}
use Rattle.sw_tree.specs.declared.fail.DeError.TheVariants as fail
use Rattle.sw_elem.specs.Equations.{Writes, Reads, Spots, Skips}
use Rattle.sw_elem.specs.Statements.{Norm}
use Rattle.sw_core.specs.Parts.{Reading, all_in, row_writes, row_norm}
use Rattle.sw_core.specs.Plans.{Plans, refused, plan_reads, plan_spot, plan_skips}

-- the parts' trees in order, or the first refusal; what no list means is free
abbrev pub tuple_writes : List Writes → Writes
tuple_writes ws m (list vs) = bind (row_writes ws (at_value m) (parts vs)) (λ ts. within (node.list (trees ts)))
tuple_writes ws m v = Ok node.null

-- what was read, where as many items were found as are wanted
abbrev pub tuple_made : ℕ → ℕ → List Meaning → Result Meaning DeError
tuple_made wanted found vs = cond (found == wanted) (Ok (row vs)) (Err (fail.InvalidLength found))

-- the items in order, as far as there are parts for them
abbrev pub tuple_plan : List Reading → Plans Meaning
tuple_plan xs m (node.list ts) = record { readers = all_in (at_value m) xs; makes = tuple_made (length xs) (length (items ts)) }
tuple_plan xs m t = refused (fail.InvalidType (kind_of t))

abbrev pub tuple_reads : List Reading → Reads
tuple_reads xs = plan_reads (tuple_plan xs)

abbrev pub tuple_spot : List Reading → Spots
tuple_spot xs = plan_spot (tuple_plan xs)

abbrev pub tuple_skips : List Reading → Skips
tuple_skips xs = plan_skips (tuple_plan xs)

-- the norm of each part
abbrev pub tuple_norm : List Norm → Norm
tuple_norm ns m (list vs) = row (row_norm ns (at_value m) (parts vs))
tuple_norm ns m v = v

-- what each part assumes
abbrev pub tuple_assumes : List (Type 0) → Type 0
tuple_assumes [] = Unit {0}
tuple_assumes (a ∷ bs) = a × tuple_assumes bs
