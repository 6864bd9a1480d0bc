-- An optional value: null without one, else what its part writes and reads in the same mode.
use Rattle.std.specs.Prelude.{zero, suc, [], Ok}
use Rattle.sw_tree.specs.Meaning.{nothing, case}
use Rattle.sw_tree.specs.Steps.{bind}
use Rattle.sw_tree.specs.Tree.{null}
use Rattle.sw_elem.specs.Equations.{Writes, Reads, Spots, Skips}
use Rattle.sw_elem.specs.Statements.{Norm}

-- what no option means is free
abbrev pub option_writes : Writes → Writes
option_writes w m (case (suc zero) v) = w m v
option_writes w m v = Ok null

abbrev pub option_reads : Reads → Reads
option_reads r m null = Ok (case 0 nothing)
option_reads r m t = bind (r m t) (λ v. Ok (case 1 v))

abbrev pub option_spot : Spots → Spots
option_spot s m null = 0
option_spot s m t = s m t

abbrev pub option_skips : Skips → Skips
option_skips k m null = []
option_skips k m t = k m t

-- the norm of the value
abbrev pub option_norm : Norm → Norm
option_norm n m (case (suc zero) v) = case 1 (n m v)
option_norm n m v = v
