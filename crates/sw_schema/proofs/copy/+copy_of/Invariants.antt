use Rattle.std.proofs.Common.{◌≡◌, ◌+◌, ◌*◌, take}
use Rattle.sw_schema.specs.Schema.{schemas}
use Rattle.sw_schema.specs.Field.{field_row}
use Rattle.sw_schema.specs.Inner.Levels.{levels, most_levels, field_levels}
use Rattle.sw_schema.proofs.copy.+copy_of.Given as goal

abbrev pub invariant-copies_of-loop-part : goal.invariant-copies_of-loop-part
invariant-copies_of-loop-part l = l.copies.items ≡ take l.part-index l.parts

abbrev pub invariant-field_copies_of-loop-field : goal.invariant-field_copies_of-loop-field
invariant-field_copies_of-loop-field l = l.copies.items ≡ take l.field-index l.fields

abbrev pub decreases-copy_of : goal.decreases-copy_of
decreases-copy_of l = 2 * levels l.schema.now

abbrev pub decreases-copies_of : goal.decreases-copies_of
decreases-copies_of l = 2 * most_levels (schemas l.parts.now) + 1

abbrev pub decreases-field_copies_of : goal.decreases-field_copies_of
decreases-field_copies_of l = 2 * field_levels (field_row l.fields.now) + 1
