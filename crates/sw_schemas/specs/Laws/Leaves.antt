-- What always writes what is valid does so where its expression is sound.
use Rattle.sw_tree.specs.Meaning.{Meaning}
use Rattle.sw_check.specs.Form.{Form}
use Rattle.sw_elem.specs.Equations.{Writes}
use Rattle.sw_schema.specs.JsonSchema.{WritesSchema}
use Rattle.sw_schema.specs.Schema.{Schema}
use Rattle.sw_schemas.specs.FitsSchema.{FitsSchema}

pub always_fits : {P : Meaning → Type 0} {w : Writes} {s : Schema} (x : Form) → WritesSchema P w s → FitsSchema P w x s (Unit {0})
always_fits x h = record { fits = λ y b c. h.fits b }
