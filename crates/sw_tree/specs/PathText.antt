-- The text of a path.
use Rattle.std.specs.Prelude.{ℕ, List, ◌++◌, codes, decimal, [], ◌∷◌}
use Rattle.sw_tree.specs.declared.path.Step.{Step}
use Rattle.sw_tree.specs.declared.path.Step.TheVariants.{Item, Key, Value}

-- a slash and the position, and behind the position of a key the letter k
abbrev pub step_text : Step → List ℕ
step_text (Item n) = codes "/" ++ decimal n
step_text (Key n) = codes "/" ++ decimal n ++ codes "k"
step_text (Value n) = codes "/" ++ decimal n

abbrev pub steps_text : List Step → List ℕ
steps_text [] = []
steps_text (s ∷ ss) = step_text s ++ steps_text ss

abbrev pub path_text : List Step → List ℕ
path_text [] = codes "/"
path_text (s ∷ ss) = steps_text (s ∷ ss)
