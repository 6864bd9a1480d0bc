use Rattle.std.proofs.Common.{◌≡◌, ◌++◌, [], drop}
use Rattle.sw_tree.specs.Image.{numbers}
use Rattle.sw_json.specs.Text.{more_items}
use Rattle.sw_json.proofs.leaf.push_more_bytes.Given as goal

abbrev pub invariant-loop-value : goal.invariant-loop-value
invariant-loop-value l =
    l.initial.out.items ++ more_items (numbers l.values) [] ≡ l.out.items ++ more_items (numbers (drop l.value-index l.values)) []
