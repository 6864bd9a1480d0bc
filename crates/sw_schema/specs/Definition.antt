-- What a type or an adapter publishes: the schema of what it writes, with the schema's name, its id, and whether it stands inline where it is used.
use Rattle.std.specs.Prelude.{ℕ, Bool, true, List}
use Rattle.sw_schema.specs.Schema.{Schema}

pub record Definition : Type 0 where
  pub schema : Schema
  pub name : List ℕ
  pub id : List ℕ
  pub inlined : Bool

-- a schema that stands inline, and whose id is its name
abbrev pub base_definition : List ℕ → Schema → Definition
base_definition name s = record { schema = s; name = name; id = name; inlined = true }
