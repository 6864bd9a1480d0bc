-- A row: trees that are read one after another, each by a reader of its own.
use Rattle.std.specs.Prelude.{ℕ, ◌+◌, List, [], ◌∷◌, ◌++◌, cond, is_ok, Result, Ok}
use Rattle.sw_tree.specs.Meaning.{Meaning}
use Rattle.sw_tree.specs.Placed.{Note, moved, spot_next}
use Rattle.sw_tree.specs.Steps.{bind}
use Rattle.sw_tree.specs.Tree.{Tree, size}
use Rattle.sw_tree.specs.declared.mode.Mode.{Mode}
use Rattle.sw_tree.specs.declared.fail.DeError.{DeError}
use Rattle.sw_elem.specs.Equations.{Reads, Spots, Skips}

-- what is read of a tree, the number of the node that is refused, and what is passed over
pub record Reader (M : Type 0) : Type 0 where
  pub reads : Tree → Result M DeError
  pub spot : Tree → ℕ
  pub skips : Tree → List Note

-- an adapter in a mode
abbrev pub reader : Reads → Spots → Skips → Mode → Reader Meaning
reader r s k m = record { reads = r m; spot = s m; skips = k m }

-- one reader for each
abbrev pub each_by : {M A : Type 0} → Reader M → List A → List (Reader M)
each_by r [] = []
each_by r (x ∷ xs) = r ∷ each_by r xs

-- two readers by turns for each
abbrev pub turns_by : {M A : Type 0} → Reader M → Reader M → List A → List (Reader M)
turns_by r q [] = []
turns_by r q (x ∷ xs) = r ∷ q ∷ turns_by r q xs

-- the values in order, or the first refusal; trees and readers beyond the shorter of the two are left
abbrev pub row_reads : {M : Type 0} → List (Reader M) → List Tree → Result (List M) DeError
row_reads [] ts = Ok []
row_reads (r ∷ rs) [] = Ok []
row_reads (r ∷ rs) (t ∷ ts) = bind (r.reads t) (λ v. bind (row_reads rs ts) (λ vs. Ok (v ∷ vs)))

-- the number of the node that is refused, where the first tree has the number 0
abbrev pub row_spot : {M : Type 0} → List (Reader M) → List Tree → ℕ
row_spot [] ts = 0
row_spot (r ∷ rs) [] = 0
row_spot (r ∷ rs) (t ∷ ts) = spot_next (r.reads t) (r.spot t) (size t + row_spot rs ts)

-- what is passed over, up to the first tree that is refused
abbrev pub row_skips : {M : Type 0} → List (Reader M) → List Tree → List Note
row_skips [] ts = []
row_skips (r ∷ rs) [] = []
row_skips (r ∷ rs) (t ∷ ts) = r.skips t ++ cond (is_ok (r.reads t)) (moved (size t) (row_skips rs ts)) []
