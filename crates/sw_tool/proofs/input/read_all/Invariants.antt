use Rattle.std.proofs.Common.{◌≡◌, ◌-◌, ◌≤◌, ◌<◌, vec_len}
use Rattle.std.specs.Io.KnownBytes.{prepend_known}
use Rattle.sw_tool.specs.Input.{limit}
use Rattle.sw_tool.proofs.input.read_all.Given as goal

abbrev pub invariant-loop-bytes : goal.invariant-loop-bytes
invariant-loop-bytes g l =
    record {
      came : g.S.Source.left l.initial.source ≡ prepend_known l.bytes.items (g.S.Source.left l.source);
      counts : g.S.Source.faults l.initial.source ≤ g.S.Source.faults l.source;
      chunk : vec_len l.chunk ≡ 65536;
      within : vec_len l.bytes < limit;
    }

abbrev pub decreases-loop-bytes : goal.decreases-loop-bytes
decreases-loop-bytes g l = limit - vec_len l.bytes
