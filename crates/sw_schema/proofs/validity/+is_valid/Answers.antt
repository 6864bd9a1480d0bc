use Rattle.std.proofs.Common.{arith, ap}
use Rattle.sw_schema.specs.Inner.Levels.{levels}
use Rattle.sw_schema.proofs.Levels.{part_levels, field_part_levels}
use Rattle.sw_schema.proofs.validity.+is_valid.Goals as goal

pub any_valid-is_valid-requires : goal.any_valid-is_valid-requires
any_valid-is_valid-requires t c = (omega (arith, c.decreases, part_levels c.args.options.now c.loop-option.option-index c.option-item.result c.option-item.result c.loop-option-test.true c.option-item.is), tt)

pub count_valid-is_valid-requires : goal.count_valid-is_valid-requires
count_valid-is_valid-requires t c = (omega (arith, c.decreases, part_levels c.args.options.now c.loop-option.option-index c.option-item.result c.option-item.result c.loop-option-test.true c.option-item.is), tt)

pub placed_valid-is_valid-requires : goal.placed_valid-is_valid-requires
placed_valid-is_valid-requires t c = (omega (arith, c.decreases, part_levels c.args.parts.now c.loop-part.part-index c.part-item.result c.part-item.result c.loop-part-test.true c.part-item.is), tt)

pub fields_valid-named_valid-requires : goal.fields_valid-named_valid-requires
fields_valid-named_valid-requires t c = (omega (arith, c.decreases, field_part_levels c.args.fields.now c.loop-field.field-index c.field-item.result c.field-item.result c.loop-field-test.true c.field-item.is, ap levels c.schema.ensures), tt)
