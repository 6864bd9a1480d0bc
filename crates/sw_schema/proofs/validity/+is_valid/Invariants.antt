use Rattle.std.proofs.Common.{◌≡◌, ◌+◌, ◌*◌, ◌≤◌, drop, false, is_none}
use Rattle.sw_tree.specs.Tree.{Tree, pairs_at}
use Rattle.sw_schema.specs.Inner.Parts.{part_tree}
use Rattle.sw_schema.specs.Schema.{schemas}
use Rattle.sw_schema.specs.Field.{field_row}
use Rattle.sw_schema.specs.Inner.Levels.{levels, most_levels, field_levels}
use Rattle.sw_schema.specs.Valid as valid
use Rattle.sw_schema.specs.Valid.{all_pass, named_pass, passes_entries, valid_placed, valid_any, count_valid, valid_fields}
use Rattle.sw_schema.proofs.validity.+is_valid.Given as goal

abbrev pub invariant-all_named_valid-loop-key : goal.invariant-all_named_valid-loop-key
invariant-all_named_valid-loop-key l = named_pass l.name (valid.valid l.schema) l.fn.entries ≡ named_pass l.name (valid.valid l.schema) l.key-iterator

abbrev pub invariant-all_valid-loop-item : goal.invariant-all_valid-loop-item
invariant-all_valid-loop-item l = all_pass (valid.valid l.schema) l.fn.items ≡ all_pass (valid.valid l.schema) l.item-iterator

abbrev pub invariant-any_valid-loop-option : goal.invariant-any_valid-loop-option
invariant-any_valid-loop-option l = valid_any (schemas (drop l.option-index l.options)) (part_tree l.part) ≡ valid_any (schemas l.options) (part_tree l.part)

abbrev pub invariant-count_valid-loop-option : goal.invariant-count_valid-loop-option
invariant-count_valid-loop-option l = (l.count + count_valid (schemas (drop l.option-index l.options)) (part_tree l.part) ≡ count_valid (schemas l.options) (part_tree l.part)) × (l.count ≤ l.option-index)

abbrev pub invariant-fields_valid-loop-field : goal.invariant-fields_valid-loop-field
invariant-fields_valid-loop-field l =
    (passes_entries (valid_fields (field_row (drop l.field-index l.fields))) (part_tree l.part) ≡ passes_entries (valid_fields (field_row l.fields)) (part_tree l.part)) × (is_none (pairs_at (part_tree l.part)) ≡ false)

abbrev pub invariant-placed_valid-loop-part : goal.invariant-placed_valid-loop-part
invariant-placed_valid-loop-part l = valid_placed (schemas (drop l.part-index l.parts)) l.items ≡ valid_placed (schemas l.parts) l.fn.items

abbrev pub invariant-values_valid-loop-key : goal.invariant-values_valid-loop-key
invariant-values_valid-loop-key l = all_pass (λ (e : Tree × Tree). valid.valid l.schema e.1) l.fn.entries ≡ all_pass (λ (e : Tree × Tree). valid.valid l.schema e.1) l._key-iterator

abbrev pub decreases-is_valid : goal.decreases-is_valid
decreases-is_valid l = 4 * levels l.schema.now

abbrev pub decreases-items_valid : goal.decreases-items_valid
decreases-items_valid l = 4 * levels l.schema.now + 2

abbrev pub decreases-all_valid : goal.decreases-all_valid
decreases-all_valid l = 4 * levels l.schema.now + 1

abbrev pub decreases-values_valid : goal.decreases-values_valid
decreases-values_valid l = 4 * levels l.schema.now + 1

abbrev pub decreases-placed_valid : goal.decreases-placed_valid
decreases-placed_valid l = 4 * most_levels (schemas l.parts.now) + 1

abbrev pub decreases-any_valid : goal.decreases-any_valid
decreases-any_valid l = 4 * most_levels (schemas l.options.now) + 1

abbrev pub decreases-count_valid : goal.decreases-count_valid
decreases-count_valid l = 4 * most_levels (schemas l.options.now) + 1

abbrev pub decreases-fields_valid : goal.decreases-fields_valid
decreases-fields_valid l = 4 * field_levels (field_row l.fields.now) + 3

abbrev pub decreases-named_valid : goal.decreases-named_valid
decreases-named_valid l = 4 * levels l.schema.now + 2

abbrev pub decreases-all_named_valid : goal.decreases-all_named_valid
decreases-all_named_valid l = 4 * levels l.schema.now + 1
