-- What a writer and a reader are, as functions of meanings and trees in each mode, and the law of a reader.
use Rattle.std.specs.Prelude.{Result, ℕ, List, ◌≡◌, ◌<◌, Ok, Err, []}
use Rattle.sw_tree.specs.Meaning.{Meaning}
use Rattle.sw_tree.specs.Placed.{Note}
use Rattle.sw_tree.specs.Proper.{IsNodeTree}
use Rattle.sw_tree.specs.Tree.{Tree, size}
use Rattle.sw_tree.specs.declared.mode.Mode.{Mode}
use Rattle.sw_tree.specs.declared.fail.SerError.{SerError}
use Rattle.sw_tree.specs.declared.fail.DeError.{DeError}

-- the tree of a meaning, or why it isn't written
abbrev pub Writes : Type 0
Writes = Mode → Meaning → Result Tree SerError

-- the meaning of a tree, or why it is refused
abbrev pub Reads : Type 0
Reads = Mode → Tree → Result Meaning DeError

-- the number of the refused node, where the tree is refused
abbrev pub Spots : Type 0
Spots = Mode → Tree → ℕ

-- the refusals that are passed over
abbrev pub Skips : Type 0
Skips = Mode → Tree → List Note

-- what is read of a tree that a view can show is one of those meanings, and a refused node is one of the tree's
pub record LawfulReading (P : Meaning → Type 0) (reads : Reads) (spot : Spots) : Type 0 where
  pub meanings : (m : Mode) (t : Tree) (v : Meaning) → IsNodeTree t → reads m t ≡ Ok v → P v
  pub inside : (m : Mode) (t : Tree) (e : DeError) → reads m t ≡ Err e → spot m t < size t

-- a reader that refuses its own node alone
abbrev pub own_spot : Spots
own_spot m t = 0

-- and passes nothing over
abbrev pub no_skips : Skips
no_skips m t = []
