use Rattle.std.proofs.Common.{◌≡◌, ◌+◌, ◌*◌, ◌++◌, drop}
use Rattle.sw_schema.specs.Schema.{schemas}
use Rattle.sw_schema.specs.Field.{field_row}
use Rattle.sw_schema.specs.SchemaTree.{schema_trees, properties}
use Rattle.sw_schema.specs.Inner.Levels.{levels, most_levels, field_levels}
use Rattle.sw_schema.proofs.to_node.+node_of.Given as goal

abbrev pub invariant-parts_node-loop-part : goal.invariant-parts_node-loop-part
invariant-parts_node-loop-part l = schema_trees (schemas l.parts) ≡ l.items.items ++ schema_trees (schemas (drop l.part-index l.parts))

abbrev pub invariant-properties_node-loop-field : goal.invariant-properties_node-loop-field
invariant-properties_node-loop-field l = properties (field_row l.list) ≡ l.entries.items ++ properties (field_row (drop l.field-index l.list))

abbrev pub decreases-node_of : goal.decreases-node_of
decreases-node_of l = 3 * levels l.schema.now

abbrev pub decreases-array_node : goal.decreases-array_node
decreases-array_node l = 3 * levels l.items.now + 1

abbrev pub decreases-tuple_node : goal.decreases-tuple_node
decreases-tuple_node l = 3 * most_levels (schemas l.parts.now) + 2

abbrev pub decreases-object_node : goal.decreases-object_node
decreases-object_node l = 3 * levels l.values.now + 1

abbrev pub decreases-fields_node : goal.decreases-fields_node
decreases-fields_node l = 3 * field_levels (field_row l.list.now) + 2

abbrev pub decreases-options_node : goal.decreases-options_node
decreases-options_node l = 3 * most_levels (schemas l.options.now) + 2

abbrev pub decreases-write_only_node : goal.decreases-write_only_node
decreases-write_only_node l = 3 * levels l.part.now + 1

abbrev pub decreases-parts_node : goal.decreases-parts_node
decreases-parts_node l = 3 * most_levels (schemas l.parts.now) + 1

abbrev pub decreases-properties_node : goal.decreases-properties_node
decreases-properties_node l = 3 * field_levels (field_row l.list.now) + 1
