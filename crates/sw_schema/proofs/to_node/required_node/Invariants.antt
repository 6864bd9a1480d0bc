use Rattle.std.proofs.Common.{◌≡◌, ◌++◌, drop}
use Rattle.sw_schema.specs.Field.{field_row}
use Rattle.sw_schema.specs.SchemaTree.{required_names}
use Rattle.sw_schema.proofs.to_node.required_node.Given as goal

abbrev pub invariant-loop-field : goal.invariant-loop-field
invariant-loop-field l = required_names (field_row l.list) ≡ l.names.items ++ required_names (field_row (drop l.field-index l.list))
