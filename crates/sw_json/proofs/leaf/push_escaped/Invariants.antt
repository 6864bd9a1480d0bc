use Rattle.std.proofs.Common.{◌≡◌, [], Some, length}
use Rattle.sw_json.specs.Text.{escaped}
use Rattle.sw_json.proofs.Pushing.{onto}
use Rattle.sw_json.proofs.leaf.push_escaped.Given as goal

abbrev pub invariant-runs : goal.invariant-runs
invariant-runs l = onto l.initial.out.items (Some (escaped l.content [])) ≡ onto l.out.items (Some (escaped l.rest []))

abbrev pub decreases-runs : goal.decreases-runs
decreases-runs l = length l.rest
