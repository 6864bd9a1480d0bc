-- Each part of a schema, and each field of it, weighs less than the schema.
use Rattle.std.specs.Prelude.{◌+◌, ◌*◌, ◌≤◌, max, List, [], ◌∷◌}
use Rattle.std.proofs.Common.{arith}
use denote.Param.Weighed.{most}
use Rattle.sw_schema.specs.Schema.{Schema, schemas}
use Rattle.sw_schema.specs.Field.{Field, field_row}
use Rattle.sw_schema.specs.Inner.Levels.{most_levels, field_levels, weight, field_weight}
use Rattle.sw_schema.specs.Inner.Shape.{shape_schema}
use Rattle.sw_schema.specs.declared.schema.Shape.{Shape}
use Rattle.sw_schema.specs.declared.schema.Shape.TheVariants as shape
use Rattle.sw_schema.specs.declared.schema.SchemaField.TheDeep.{deep-Shape}

most-schemas : (ss : List Schema) → most (λ s. weight s + 1) ss ≤ 2 * most_levels (schemas ss) + 1
most-schemas [] = omega arith
most-schemas (s ∷ ss) = omega (arith, most-schemas ss)

most-fields : (fs : List Field) → most (λ f. field_weight f + 1) fs ≤ 2 * field_levels (field_row fs) + 2
most-fields [] = omega arith
most-fields (f ∷ fs) = omega (arith, most-fields fs)

pub deep_le-weight : (s : Shape) → max (deep-Shape s) 0 ≤ weight (shape_schema s)
deep_le-weight shape.Any = omega arith
deep_le-weight shape.Null = omega arith
deep_le-weight shape.Boolean = omega arith
deep_le-weight (shape.Integer low high) = omega arith
deep_le-weight (shape.Number low w) = omega arith
deep_le-weight (shape.Text p b w) = omega arith
deep_le-weight (shape.Const s) = omega arith
deep_le-weight (shape.Array p least most u) = omega arith
deep_le-weight (shape.Tuple v) = omega (arith, most-schemas v.items)
deep_le-weight (shape.Object p) = omega arith
deep_le-weight (shape.Fields v) = let h : most (λ (f : Field). field_weight f + 1) v.items ≤ 2 * field_levels (field_row v.items) + 2 = most-fields v.items in omega (arith, h)
deep_le-weight (shape.AnyOf v) = omega (arith, most-schemas v.items)
deep_le-weight (shape.OneOf v) = omega (arith, most-schemas v.items)
deep_le-weight (shape.WriteOnly p) = omega arith
