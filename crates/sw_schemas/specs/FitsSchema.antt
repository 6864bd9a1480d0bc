-- That what an adapter writes as JSON is valid for a schema.
use Rattle.std.specs.Prelude.{Bool}
use Rattle.sw_tree.specs.Meaning.{Meaning}
use Rattle.sw_check.specs.Blame.{IsSound}
use Rattle.sw_check.specs.Form.{Form}
use Rattle.sw_elem.specs.Equations.{Writes}
use Rattle.sw_schema.specs.JsonSchema.{at_json, WritesValid}
use Rattle.sw_schema.specs.Schema.{Schema}

-- where its expression is sound, under what is assumed, the image of each tree that is written is valid
pub record FitsSchema (P : Meaning → Type 0) (writes : Writes) (expr : Form) (s : Schema) (assumes : Type 0) : Type 0 where
  pub fits : assumes → (b : Bool) → IsSound expr (at_json b) → WritesValid P writes s b
