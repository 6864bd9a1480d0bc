-- That what is written as JSON is valid for a schema.
use Rattle.std.specs.Prelude.{◌≡◌, Bool, true, Some, Ok}
use Rattle.sw_tree.specs.Image.{value_image}
use Rattle.sw_tree.specs.Meaning.{Meaning}
use Rattle.sw_tree.specs.Tree.{Tree}
use Rattle.sw_tree.specs.declared.mode.Mode.{Mode}
use Rattle.sw_tree.specs.declared.mode.WireKind.TheVariants.{Json}
use Rattle.sw_tree.specs.declared.mode.Place.TheVariants.{Value}
use Rattle.sw_elem.specs.Equations.{Writes}
use Rattle.sw_schema.specs.Schema.{Schema}
use Rattle.sw_schema.specs.Valid.{valid}

-- values on JSON, buffered or not
abbrev pub at_json : Bool → Mode
at_json b = record { wire = Json; place = Value; buffered = b }

-- the image of each tree that is written there is valid
abbrev pub WritesValid : (Meaning → Type 0) → Writes → Schema → Bool → Type 0
WritesValid P writes s b = (v : Meaning) (t i : Tree) → P v → writes (at_json b) v ≡ Ok t → value_image t ≡ Some i → valid s i ≡ true

-- of a type that writes itself: always
pub record WritesSchema (P : Meaning → Type 0) (writes : Writes) (s : Schema) : Type 0 where
  pub fits : (b : Bool) → WritesValid P writes s b
