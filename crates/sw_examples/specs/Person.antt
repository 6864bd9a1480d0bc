-- A person: a record of a name, an age and tags, without which there are none.
use Rattle.std.specs.Prelude.{ℕ, List, [], ◌∷◌, codes}
use Rattle.sw_tree.specs.Meant.{row}
use Rattle.sw_core.specs.Fields.{Field, required, optional}
use Rattle.sw_core.specs.Parts.{Reading}

abbrev pub person_names : List (List ℕ)
person_names = codes "name" ∷ codes "age" ∷ codes "tags" ∷ []

abbrev pub person_fields : Reading → Reading → Reading → List Field
person_fields name age tags = required (codes "name") name ∷ required (codes "age") age ∷ optional (codes "tags") tags (row []) ∷ []
