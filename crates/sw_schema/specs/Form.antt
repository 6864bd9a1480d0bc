-- The schema that is shown as a form with its parts.
use Rattle.sw_schema.specs.Schema.{Schema, any, null, boolean, integer, number, text, constant, array, tuple, object, fields, any_of, one_of, write_only, schemas}
use Rattle.sw_schema.specs.Field.{field_row}
use Rattle.sw_schema.specs.declared.schema.SchemaForm.{SchemaForm}
use Rattle.sw_schema.specs.declared.schema.SchemaForm.TheVariants as form

abbrev pub form_schema : SchemaForm → Schema
form_schema form.Any = any
form_schema form.Null = null
form_schema form.Boolean = boolean
form_schema (form.Integer low high) = integer low high
form_schema (form.Number low w) = number low w
form_schema (form.Text p b w) = text p b w
form_schema (form.Const s) = constant s.now
form_schema (form.Array p least most u) = array p.now least most u
form_schema (form.Tuple s) = tuple (schemas s.now)
form_schema (form.Object p) = object p.now
form_schema (form.Fields s) = fields (field_row s.now)
form_schema (form.AnyOf s) = any_of (schemas s.now)
form_schema (form.OneOf s) = one_of (schemas s.now)
form_schema (form.WriteOnly p) = write_only p.now
