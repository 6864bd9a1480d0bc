-- What a schema is: a form, with its parts.
use Rattle.std.specs.Prelude.{ℕ, ℤ, Bool, List, [], ◌∷◌, Option}
use Rattle.sw_schema.specs.declared.pattern.Pattern.{Pattern}

-- a schema, a row of schemas, and a row of fields, each a name, the schema of its value and whether it is required
mutual
  pub data Schema : Type 0 where
    any : Schema
    null : Schema
    boolean : Schema
    -- the minimum and the maximum
    integer : Option ℤ → Option ℤ → Schema
    -- the minimum, and whether it is marked as write-only
    number : Option ℤ → Bool → Schema
    -- the pattern, and whether it is marked as base64 and as write-only
    text : Option Pattern → Bool → Bool → Schema
    constant : List ℕ → Schema
    -- the items' schema, the fewest and the most items, and whether they are unique
    array : Schema → Option ℕ → Option ℕ → Bool → Schema
    tuple : Schemas → Schema
    object : Schema → Schema
    fields : Fields → Schema
    any_of : Schemas → Schema
    one_of : Schemas → Schema
    write_only : Schema → Schema

  pub data Schemas : Type 0 where
    no_schemas : Schemas
    schema : Schema → Schemas → Schemas

  pub data Fields : Type 0 where
    no_fields : Fields
    field : List ℕ → Schema → Bool → Fields → Fields

abbrev pub schemas : List Schema → Schemas
schemas [] = no_schemas
schemas (s ∷ ss) = schema s (schemas ss)
