-- Parts side by side, each with an adapter of its own: how they are read in turn, written in turn, and what reading them back gives.
use Rattle.std.specs.Prelude.{List, [], ◌∷◌, Result, Ok}
use Rattle.sw_tree.specs.Meaning.{Meaning}
use Rattle.sw_tree.specs.Steps.{bind}
use Rattle.sw_tree.specs.Tree.{Tree}
use Rattle.sw_tree.specs.declared.mode.Mode.{Mode}
use Rattle.sw_tree.specs.declared.fail.SerError.{SerError}
use Rattle.sw_elem.specs.Equations.{Writes, Reads, Spots, Skips}
use Rattle.sw_elem.specs.Statements.{Norm}
use Rattle.sw_core.specs.Rows.{Reader, reader}

-- how an adapter reads
pub record Reading : Type 0 where
  pub reads : Reads
  pub spot : Spots
  pub skips : Skips

abbrev pub reading : Reads → Spots → Skips → Reading
reading r s k = record { reads = r; spot = s; skips = k }

abbrev pub in_mode : Mode → Reading → Reader Meaning
in_mode m x = reader x.reads x.spot x.skips m

abbrev pub all_in : Mode → List Reading → List (Reader Meaning)
all_in m [] = []
all_in m (x ∷ xs) = in_mode m x ∷ all_in m xs

-- the trees in order, or the first refusal
abbrev pub row_writes : List Writes → Mode → List Meaning → Result (List Tree) SerError
row_writes [] m vs = Ok []
row_writes (w ∷ ws) m [] = Ok []
row_writes (w ∷ ws) m (v ∷ vs) = bind (w m v) (λ t. bind (row_writes ws m vs) (λ ts. Ok (t ∷ ts)))

-- the norm of each
abbrev pub row_norm : List Norm → Mode → List Meaning → List Meaning
row_norm [] m vs = vs
row_norm (n ∷ ns) m [] = []
row_norm (n ∷ ns) m (v ∷ vs) = n m v ∷ row_norm ns m vs
