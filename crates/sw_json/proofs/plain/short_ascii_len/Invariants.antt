use Rattle.std.proofs.Common.{◌≡◌, ◌+◌, ◌-◌, ◌≤◌, length, drop}
use Rattle.std.specs.List.{prefix_len}
use Rattle.sw_json.specs.Inner.Plain.{is_plain_ascii}
use Rattle.sw_json.proofs.plain.short_ascii_len.Given as goal

abbrev pub invariant-loop-len : goal.invariant-loop-len
invariant-loop-len l = (prefix_len is_plain_ascii l.bytes ≡ l.len + prefix_len is_plain_ascii (drop l.len l.bytes)) × (l.len ≤ length l.bytes)

abbrev pub decreases-loop-len : goal.decreases-loop-len
decreases-loop-len l = length l.bytes - l.len
