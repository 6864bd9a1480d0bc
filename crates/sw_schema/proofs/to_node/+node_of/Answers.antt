use Rattle.std.proofs.Common.{arith, ap}
use Rattle.sw_schema.specs.Inner.Levels.{levels}
use Rattle.sw_schema.proofs.Levels.{part_levels, field_part_levels}
use Rattle.sw_schema.proofs.TreeLemmas.{list_too_deep, map_too_deep}
use Rattle.sw_schema.specs.Schema.{schemas}
use Rattle.sw_schema.specs.Field.{field_row}
use Rattle.sw_schema.specs.SchemaTree.{schema_trees, properties}
use Rattle.sw_schema.proofs.to_node.+node_of.Goals as goal

pub parts_node-node_of-requires : goal.parts_node-node_of-requires
parts_node-node_of-requires t c = (omega (arith, c.decreases, part_levels c.args.parts.now c.loop-part.part-index c.part-item.result c.part-item.result c.loop-part-test.true c.part-item.is), tt)

pub properties_node-node_of-requires : goal.properties_node-node_of-requires
properties_node-node_of-requires t c = (omega (arith, c.decreases, field_part_levels c.args.list.now c.loop-field.field-index c.field-item.result c.field-item.result c.loop-field-test.true c.field-item.is, ap levels c.schema.ensures), tt)

pub parts_node-returns-in_err-item : goal.parts_node-returns-in_err-item
parts_node-returns-in_err-item t c =
    list_too_deep c.from_residual.result c.in_err-item.field-0.0 (schema_trees (schemas c.args.parts.now)) c.loop-part.items.items c.args.parts.now c.loop-part.part-index c.part-item.result c.part-item.result c.loop-part-test.true c.part-item.is c.loop-part.invariant c.from_residual.ensures.1 c.in_err-item.ensures

pub properties_node-returns-in_err-value : goal.properties_node-returns-in_err-value
properties_node-returns-in_err-value t c =
    map_too_deep c.from_residual.result c.in_err-value.field-0.0 (properties (field_row c.args.list.now)) c.loop-field.entries.items c.args.list.now c.loop-field.field-index c.field-item.result c.field-item.result c.schema.result.now c.loop-field-test.true c.field-item.is c.schema.ensures c.loop-field.invariant c.from_residual.ensures.1 c.in_err-value.ensures
