-- A field by itself, and fields in a row.
use Rattle.std.specs.Prelude.{ℕ, Bool, List, [], ◌∷◌}
use Rattle.sw_schema.specs.Schema.{Schema, Fields, no_fields, field}

-- its name, the schema of its value, and whether an entry of the name must be there
pub record Field : Type 0 where
  pub name : List ℕ
  pub schema : Schema
  pub required : Bool

abbrev pub field_row : List Field → Fields
field_row [] = no_fields
field_row (f ∷ fs) = field f.name f.schema f.required (field_row fs)
