-- An optional pair as the entries of a map: none without a pair, else the one.
use Rattle.std.specs.Prelude.{ℕ, zero, suc, List, [], ◌∷◌, length, Result, Ok, Err}
use Rattle.sw_tree.specs.Meaning.{Meaning, nothing, case, list, meanings}
use Rattle.sw_tree.specs.Meant.{pair}
use Rattle.sw_tree.specs.Mode.{at_key, at_value}
use Rattle.sw_tree.specs.Tree.{Tree, pairs, kind_of}
use Rattle.sw_tree.specs.Tree as node
use Rattle.sw_tree.specs.declared.fail.DeError.{DeError}
use Rattle.sw_tree.specs.declared.fail.DeError.TheVariants as fail
use Rattle.sw_elem.specs.Converted.{converted_writes}
use Rattle.sw_elem.specs.Equations.{Writes, Reads, Spots, Skips}
use Rattle.sw_elem.specs.Statements.{Norm}
use Rattle.sw_core.specs.Entries.{entries_writes, pair_norm}
use Rattle.sw_core.specs.Plans.{Plans, refused, plan_reads, plan_spot, plan_skips}
use Rattle.sw_core.specs.Rows.{reader, turns_by}

-- a list of none or one; what no option means is free
abbrev pub listed : Meaning → Meaning
listed (case (suc zero) v) = list (meanings (v ∷ []))
listed v = list (meanings [])

abbrev pub optional_pair_writes : Writes → Writes → Writes
optional_pair_writes k w = converted_writes listed (entries_writes k w)

-- the first of the entries, if there is one
abbrev pub first_alone : {A : Type 0} → List A → List A
first_alone [] = []
first_alone (x ∷ xs) = x ∷ []

-- what so many entries make, of which the first was read
abbrev pub pair_made : ℕ → List Meaning → Result Meaning DeError
pair_made (suc zero) (a ∷ b ∷ []) = Ok (case 1 (pair a b))
pair_made zero vs = Ok (case 0 nothing)
pair_made n vs = Err (fail.InvalidLength n)

-- the first entry, and then how many there are
abbrev pub optional_pair_plan : Reads → Spots → Skips → Reads → Spots → Skips → Plans Meaning
optional_pair_plan r s k q z l m (node.map es) =
    record { readers = turns_by (reader r s k (at_key m)) (reader q z l (at_value m)) (first_alone (pairs es)); makes = pair_made (length (pairs es)) }
optional_pair_plan r s k q z l m t = refused (fail.InvalidType (kind_of t))

abbrev pub optional_pair_reads : Reads → Spots → Skips → Reads → Spots → Skips → Reads
optional_pair_reads r s k q z l = plan_reads (optional_pair_plan r s k q z l)

abbrev pub optional_pair_spot : Reads → Spots → Skips → Reads → Spots → Skips → Spots
optional_pair_spot r s k q z l = plan_spot (optional_pair_plan r s k q z l)

abbrev pub optional_pair_skips : Reads → Spots → Skips → Reads → Spots → Skips → Skips
optional_pair_skips r s k q z l = plan_skips (optional_pair_plan r s k q z l)

-- the norms of its key and value
abbrev pub optional_pair_norm : Norm → Norm → Norm
optional_pair_norm n l m (case (suc zero) v) = case 1 (pair_norm (n (at_key m)) (l (at_value m)) v)
optional_pair_norm n l m v = v
