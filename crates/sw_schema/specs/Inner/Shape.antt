-- The schema of one level, whose parts are already seen as schemas.
use Rattle.std.specs.Prelude.{string_bytes}
use Rattle.sw_schema.specs.Schema.{Schema, any, null, boolean, integer, number, text, constant, array, tuple, object, fields, any_of, one_of, write_only, schemas}
use Rattle.sw_schema.specs.Field.{field_row}
use Rattle.sw_schema.specs.declared.schema.Shape.{Shape}
use Rattle.sw_schema.specs.declared.schema.Shape.TheVariants as shape

abbrev pub shape_schema : Shape → Schema
shape_schema shape.Any = any
shape_schema shape.Null = null
shape_schema shape.Boolean = boolean
shape_schema (shape.Integer low high) = integer low high
shape_schema (shape.Number low w) = number low w
shape_schema (shape.Text p b w) = text p b w
shape_schema (shape.Const s) = constant (string_bytes s)
shape_schema (shape.Array p least most u) = array p.value least most u
shape_schema (shape.Tuple v) = tuple (schemas v.items)
shape_schema (shape.Object p) = object p.value
shape_schema (shape.Fields v) = fields (field_row v.items)
shape_schema (shape.AnyOf v) = any_of (schemas v.items)
shape_schema (shape.OneOf v) = one_of (schemas v.items)
shape_schema (shape.WriteOnly p) = write_only p.value
