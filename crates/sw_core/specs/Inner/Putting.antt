-- What is built once parts are put in one after another.
use Rattle.std.specs.Prelude.{List, Result, Ok}
use Rattle.sw_tree.specs.Building.{puts}
use Rattle.sw_tree.specs.Steps.{bind, traverse}
use Rattle.sw_tree.specs.Tree.{Tree, by_turns}
use Rattle.sw_tree.specs.declared.fail.SerError.{SerError}

module _ {S : Type 0} (put : Tree → S → S) where
  -- once all are put in, or the first refusal
  abbrev pub all_put : {X : Type 0} → (X → Result Tree SerError) → List X → S → Result S SerError
  all_put f xs s = bind (traverse f xs) (λ ts. Ok (puts put ts s))

  -- the same of entries, the key and the value of each by turns
  abbrev pub all_put_pairs : {X : Type 0} → (X → Result (Tree × Tree) SerError) → List X → S → Result S SerError
  all_put_pairs f xs s = bind (traverse f xs) (λ es. Ok (puts put (by_turns es) s))
