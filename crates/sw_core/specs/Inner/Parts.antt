-- Parts side by side as code goes through them: put in one after another, and read from items that have their places.
use Rattle.std.specs.Prelude.{List, [], ◌∷◌, Option, Some, None, option_map, Result, Ok}
use Rattle.sw_tree.specs.Building.{with_put}
use Rattle.sw_tree.specs.Meaning.{Meaning}
use Rattle.sw_tree.specs.Placed.{placed}
use Rattle.sw_tree.specs.Seen.{Seen}
use Rattle.sw_tree.specs.Steps.{bind}
use Rattle.sw_tree.specs.Tree.{Tree}
use Rattle.sw_tree.specs.declared.mode.Mode.{Mode}
use Rattle.sw_tree.specs.declared.fail.Refusal.{Refusal}
use Rattle.sw_tree.specs.declared.fail.SerError.{SerError}
use Rattle.sw_elem.specs.Equations.{Writes}
use Rattle.sw_core.specs.Rows.{Reader}

-- what is built once each is put in, or the first refusal
abbrev pub row_put : {S : Type 0} → (Tree → S → S) → List Writes → Mode → List Meaning → S → Result S SerError
row_put put [] m vs s = Ok s
row_put put (w ∷ ws) m [] s = Ok s
row_put put (w ∷ ws) m (v ∷ vs) s = bind (with_put put (w m v) s) (λ z. row_put put ws m vs z)

-- the values in order, or the first refusal; none where there are not as many items as readers
abbrev pub row_seen : List (Reader Meaning) → List Seen → Result (Option (List Meaning)) Refusal
row_seen [] [] = Ok (Some [])
row_seen [] (s ∷ ss) = Ok None
row_seen (r ∷ rs) [] = Ok None
row_seen (r ∷ rs) (s ∷ ss) = bind (placed r.reads r.spot s) (λ v. bind (row_seen rs ss) (λ o. Ok (option_map (λ vs. v ∷ vs) o)))
