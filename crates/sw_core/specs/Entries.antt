-- A list of pairs as the entries of a map: each key is read and written in key place, then its value in value place.
use Rattle.std.specs.Prelude.{List, [], ◌∷◌, map as list_map, Result, Ok}
use Rattle.sw_tree.specs.Building.{within}
use Rattle.sw_tree.specs.Meaning.{Meaning, list, meaning, no_meanings, meanings, parts}
use Rattle.sw_tree.specs.Meant.{pair}
use Rattle.sw_tree.specs.Mode.{at_key, at_value}
use Rattle.sw_tree.specs.Placed.{pair_of}
use Rattle.sw_tree.specs.Steps.{bind, traverse}
use Rattle.sw_tree.specs.Tree.{Tree, entries, pairs, kind_of}
use Rattle.sw_tree.specs.Tree as node
use Rattle.sw_tree.specs.declared.fail.SerError.{SerError}
use Rattle.sw_tree.specs.declared.fail.DeError.TheVariants as fail
use Rattle.sw_elem.specs.Equations.{Writes, Reads, Spots, Skips}
use Rattle.sw_elem.specs.Statements.{Norm}
use Rattle.sw_core.specs.Plans.{Plans, refused, plan_reads, plan_spot, plan_skips}
use Rattle.sw_core.specs.Rows.{reader, turns_by}

-- the trees of a pair's key and value, or the first refusal; what no pair means is free
abbrev pub pair_writes : (Meaning → Result Tree SerError) → (Meaning → Result Tree SerError) → Meaning → Result (Tree × Tree) SerError
pair_writes k w (list (meaning a (meaning b no_meanings))) = pair_of k w (a, b)
pair_writes k w v = Ok (node.null, node.null)

-- the pairs' trees in order, or the first refusal; what no list means is free
abbrev pub entries_writes : Writes → Writes → Writes
entries_writes k w m (list vs) = bind (traverse (pair_writes (k (at_key m)) (w (at_value m))) (parts vs)) (λ es. within (node.map (entries es)))
entries_writes k w m v = Ok node.null

-- two by two
abbrev pub twos : List Meaning → List Meaning
twos (a ∷ b ∷ vs) = pair a b ∷ twos vs
twos _ = []

-- all entries in order, those with equal keys too
abbrev pub entries_plan : Reads → Spots → Skips → Reads → Spots → Skips → Plans Meaning
entries_plan r s k q z l m (node.map es) =
    record { readers = turns_by (reader r s k (at_key m)) (reader q z l (at_value m)) (pairs es); makes = λ vs. Ok (list (meanings (twos vs))) }
entries_plan r s k q z l m t = refused (fail.InvalidType (kind_of t))

abbrev pub entries_reads : Reads → Spots → Skips → Reads → Spots → Skips → Reads
entries_reads r s k q z l = plan_reads (entries_plan r s k q z l)

abbrev pub entries_spot : Reads → Spots → Skips → Reads → Spots → Skips → Spots
entries_spot r s k q z l = plan_spot (entries_plan r s k q z l)

abbrev pub entries_skips : Reads → Spots → Skips → Reads → Spots → Skips → Skips
entries_skips r s k q z l = plan_skips (entries_plan r s k q z l)

-- the norms of each key and value
abbrev pub pair_norm : (Meaning → Meaning) → (Meaning → Meaning) → Meaning → Meaning
pair_norm n l (list (meaning a (meaning b no_meanings))) = pair (n a) (l b)
pair_norm n l v = v

abbrev pub entries_norm : Norm → Norm → Norm
entries_norm n l m (list vs) = list (meanings (list_map (pair_norm (n (at_key m)) (l (at_value m))) (parts vs)))
entries_norm n l m v = v
