use Rattle.std.proofs.Common.{arith, ap}
use Rattle.sw_schema.specs.Inner.Levels.{levels}
use Rattle.sw_schema.proofs.Levels.{part_levels, field_part_levels}
use Rattle.sw_schema.proofs.copy.+copy_of.Goals as goal

pub copies_of-copy_of-requires : goal.copies_of-copy_of-requires
copies_of-copy_of-requires t c = (omega (arith, c.decreases, part_levels c.args.parts.now c.loop-part.part-index c.part-item.result c.part-item.result c.loop-part-test.true c.part-item.is), tt)

pub field_copies_of-copy_of-requires : goal.field_copies_of-copy_of-requires
field_copies_of-copy_of-requires t c = (omega (arith, c.decreases, field_part_levels c.args.fields.now c.loop-field.field-index c.field-item.result c.field-item.result c.loop-field-test.true c.field-item.is, ap levels c.schema.ensures), tt)
