use Rattle.std.proofs.Common.{◌≡◌, ◌≤◌, length}
use Rattle.sw_json.specs.Inner.Unescaping.{unescaped}
use Rattle.sw_json.proofs.quoted.unescape.Given as goal

abbrev pub invariant-runs : goal.invariant-runs
invariant-runs l = record {
  same : unescaped l.out.items l.rest ≡ unescaped l.initial.out.items l.bytes;
  within : length l.rest ≤ length l.bytes;
}

abbrev pub decreases-runs : goal.decreases-runs
decreases-runs l = length l.rest
