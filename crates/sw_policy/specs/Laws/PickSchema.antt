-- A choice writes what its first option writes: any of that option's schema and the others'.
use Rattle.std.specs.Prelude.{Bool, true, List, ◌∷◌}
use Rattle.std.proofs.Common.{◌∙◌}
use Rattle.std.proofs.lemmas.Bool.{or_left}
use Rattle.sw_tree.specs.Meaning.{Meaning}
use Rattle.sw_check.specs.Form.{Form, pick_first, no_forms, forms}
use Rattle.sw_check.specs.Laws.Sound.{sound-checked}
use Rattle.sw_elem.specs.Equations.{Writes}
use Rattle.sw_elem.specs.Statements.{IsUnmarked}
use Rattle.sw_schema.specs.JsonSchema.{at_json, WritesValid}
use Rattle.sw_schema.specs.Schema.{Schema, Schemas, any_of, schema}
use Rattle.sw_schema.specs.Valid.{valid, valid_any}
use Rattle.sw_schemas.specs.FitsSchema.{FitsSchema}

-- the mark changes nothing that is written, so a part that is checked as marked writes what is valid
pub from_marked : (P : Meaning → Type 0) (w : Writes) (s : Schema) (b : Bool) → IsUnmarked w → WritesValid P w s true → WritesValid P w s b
from_marked P w s b same part v t i h p e = part v t i h (same (at_json b) v ∙ p) e

-- what is valid for the first is valid for any of it and others
first_of_any : (P : Meaning → Type 0) (w : Writes) (s : Schema) (rest : Schemas) (b : Bool) → WritesValid P w s b → WritesValid P w (any_of (schema s rest)) b
first_of_any P w s rest b part v t i h p e = or_left (valid s i) (valid_any rest i) (part v t i h p e)

module _ {P : Meaning → Type 0} {w : Writes} {x : Form} {s : Schema} {a : Type 0} (part : FitsSchema P w x s a) where
  -- a single option is the choice
  pub pick_one_fits : (rest : Schemas) → FitsSchema P w (pick_first x no_forms) (any_of (schema s rest)) a
  pick_one_fits rest = record { fits = λ y b c. first_of_any P w s rest b (part.fits y b (sound-checked (pick_first x no_forms) (at_json b) c)) }

  -- of several the first writes, and is checked as marked
  pub pick_fits : (c : Type 0) → (c → a) → IsUnmarked w → (f : Form) (fs : List Form) (rest : Schemas) → FitsSchema P w (pick_first x (forms (f ∷ fs))) (any_of (schema s rest)) c
  pick_fits c own same f fs rest = record { fits = λ y b h. first_of_any P w s rest b (from_marked P w s b same (part.fits (own y) true (sound-checked (pick_first x (forms (f ∷ fs))) (at_json b) h))) }
