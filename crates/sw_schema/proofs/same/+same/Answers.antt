use Rattle.std.proofs.Common.{◌∙◌}
use Rattle.sw_schema.specs.Inner.Parts.{part_tree}
use Rattle.sw_schema.proofs.SameLemmas.{same_lists, same_maps}
use Rattle.sw_schema.proofs.same.+same.Goals as goal

pub same-returns-in-Some-items : goal.same-returns-in-Some-items
same-returns-in-Some-items t c =
    c.same_items.ensures ∙ same_lists (part_tree c.args.first) (part_tree c.args.second) c.in-List.first c.in-Some-items.second c.in-List.ensures c.in-Some-items.ensures

pub same-returns-in-Some-entries : goal.same-returns-in-Some-entries
same-returns-in-Some-entries t c =
    c.same_pairs.ensures ∙ same_maps (part_tree c.args.first) (part_tree c.args.second) c.in-Map.first c.in-Some-entries.second c.in-Map.ensures c.in-Some-entries.ensures
