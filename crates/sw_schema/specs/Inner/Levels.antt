-- How many levels a schema has below itself, which falls from a schema to its parts.
use Rattle.std.specs.Prelude.{◌+◌, ◌*◌, ℕ, suc, max}
use Rattle.sw_schema.specs.Schema.{Schema, Schemas, Fields, any, null, boolean, integer, number, text, constant, array, tuple, object, fields, any_of, one_of, write_only, no_schemas, schema, no_fields, field}
use Rattle.sw_schema.specs.Field.{Field}

abbrev mutual
  pub levels : Schema → ℕ
  levels any = 0
  levels null = 0
  levels boolean = 0
  levels (integer low high) = 0
  levels (number low w) = 0
  levels (text p b w) = 0
  levels (constant s) = 0
  levels (array s least most u) = suc (levels s)
  levels (tuple ss) = suc (most_levels ss)
  levels (object s) = suc (levels s)
  levels (fields fs) = suc (field_levels fs)
  levels (any_of ss) = suc (most_levels ss)
  levels (one_of ss) = suc (most_levels ss)
  levels (write_only s) = suc (levels s)

  pub most_levels : Schemas → ℕ
  most_levels no_schemas = 0
  most_levels (schema s ss) = max (levels s) (most_levels ss)

  pub field_levels : Fields → ℕ
  field_levels no_fields = 0
  field_levels (field n s r fs) = max (levels s) (field_levels fs)

-- twice that, so that a field stands between the schema of fields and its own
abbrev pub weight : Schema → ℕ
weight s = 2 * levels s

abbrev pub field_weight : Field → ℕ
field_weight f = 2 * levels f.schema + 1
