-- A plan: by which readers a node's children are read, and what is made of their values.
use Rattle.std.specs.Prelude.{◌+◌, List, [], Result, Err}
use Rattle.sw_tree.specs.Meaning.{Meaning}
use Rattle.sw_tree.specs.Placed.{moved, spot_next}
use Rattle.sw_tree.specs.Steps.{bind}
use Rattle.sw_tree.specs.Tree.{Tree, list, map, items, pairs, by_turns}
use Rattle.sw_tree.specs.declared.mode.Mode.{Mode}
use Rattle.sw_tree.specs.declared.fail.DeError.{DeError}
use Rattle.sw_elem.specs.Equations.{Reads, Spots, Skips}
use Rattle.sw_core.specs.Rows.{Reader, row_reads, row_spot, row_skips}

-- the trees right below a node: a list's items, or a map's keys and values by turns
abbrev pub children : Tree → List Tree
children (list ts) = items ts
children (map es) = by_turns (pairs es)
children _ = []

-- what the children's values make may be a refusal too, of the node itself
pub record Plan (M : Type 0) : Type 0 where
  pub readers : List (Reader M)
  pub makes : List M → Result Meaning DeError

-- nothing below the node is read
abbrev pub refused : {M : Type 0} → DeError → Plan M
refused e = record { readers = []; makes = λ vs. Err e }

-- for each mode and tree
abbrev pub Plans : Type 0 → Type 0
Plans M = Mode → Tree → Plan M

abbrev pub plan_reads : {M : Type 0} → Plans M → Reads
plan_reads f m t = bind (row_reads (f m t).readers (children t)) (f m t).makes

-- the first child has the number 1
abbrev pub plan_spot : {M : Type 0} → Plans M → Spots
plan_spot f m t = spot_next (row_reads (f m t).readers (children t)) (1 + row_spot (f m t).readers (children t)) 0

abbrev pub plan_skips : {M : Type 0} → Plans M → Skips
plan_skips f m t = moved 1 (row_skips (f m t).readers (children t))
