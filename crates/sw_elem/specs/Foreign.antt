-- How trees by themselves are written and read.
use Rattle.std.specs.Prelude.{Ok, Option, Some, None, Result, Err, ℕ, ◌≡◌, true}
use Rattle.sw_tree.specs.Proper.{IsNodeTree}
use Rattle.sw_tree.specs.Meaning.{Meaning}
use Rattle.sw_tree.specs.Meaning as meaning
use Rattle.sw_tree.specs.Tree.{null, Tree}
use Rattle.sw_tree.specs.Foreign.{Foreign, foreign, is_plain}
use Rattle.sw_tree.specs.declared.fail.DeError.{DeError}
use Rattle.sw_tree.specs.declared.fail.DeError.TheVariants as fail
use Rattle.sw_elem.specs.Equations.{Writes, Reads, Spots}

-- the tree; what no tree means is free
abbrev pub any_writes : Writes
any_writes m (meaning.tree t) = Ok t
any_writes m v = Ok null

abbrev pub taken : Tree → Option Foreign → Result Meaning DeError
taken t None = Ok (meaning.tree t)
taken t (Some f) = Err (fail.InvalidType f.kind)

-- the tree, if it has no such node
abbrev pub any_reads : Reads
any_reads m t = taken t (foreign t)

abbrev pub number_of : Option Foreign → ℕ
number_of None = 0
number_of (Some f) = f.number

abbrev pub any_spot : Spots
any_spot m t = number_of (foreign t)

-- a tree that has no such node, and that a node can be
abbrev pub IsAny : Meaning → Type 0
IsAny (meaning.tree t) = (is_plain t ≡ true) × IsNodeTree t
IsAny _ = ⊥
