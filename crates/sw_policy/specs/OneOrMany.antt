-- One part by itself, or a list of parts.
use Rattle.std.specs.Prelude.{Bool, if◌then◌else◌, List, [], ◌∷◌, Ok}
use Rattle.sw_tree.specs.Meaning.{list, no_meanings, meaning}
use Rattle.sw_tree.specs.Mode.{at_value, marked}
use Rattle.sw_tree.specs.Steps.{bind}
use Rattle.sw_elem.specs.Equations.{Writes, Reads, Spots, Skips}
use Rattle.sw_elem.specs.Statements.{Norm}
use Rattle.sw_core.specs.Vec.{list_writes, list_reads, list_skips, list_norm}
use Rattle.sw_policy.specs.Options.{Reader, reader}
use Rattle.sw_policy.specs.PickFirst.{pick_reads, pick_skips}

-- one part's own tree, else the list of the parts' trees
abbrev pub one_writes : Writes → Writes
one_writes w m (list (meaning v no_meanings)) = w (at_value m) v
one_writes w m v = list_writes w m v

abbrev pub one_or_many_writes : Bool → Writes → Writes
one_or_many_writes alone w m v = if alone then one_writes w m v else list_writes w m v

-- a part in value place, as a list of one
abbrev pub alone_reads : Reads → Reads
alone_reads r m t = bind (r (at_value m) t) (λ v. Ok (list (meaning v no_meanings)))

abbrev pub alone_spot : Spots → Spots
alone_spot k m t = k (at_value m) t

abbrev pub alone_skips : Skips → Skips
alone_skips s m t = s (at_value m) t

-- a part first, then a list of parts
abbrev pub both_forms : Reads → Spots → Skips → List Reader
both_forms r s k = reader (alone_reads r) (alone_skips k) ∷ reader (list_reads r s k) (list_skips r s k) ∷ []

abbrev pub one_or_many_reads : Reads → Spots → Skips → Reads
one_or_many_reads r s k = pick_reads (both_forms r s k)

abbrev pub one_or_many_skips : Reads → Spots → Skips → Skips
one_or_many_skips r s k = pick_skips (both_forms r s k)

-- the list of the parts' norms, buffered
abbrev pub one_or_many_norm : Norm → Norm
one_or_many_norm n m v = list_norm n (marked m) v
