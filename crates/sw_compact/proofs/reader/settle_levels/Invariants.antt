use Rattle.std.proofs.Common.{◌≡◌, length, None}
use Rattle.std.specs.Prelude.{reverse}
use Rattle.sw_compact.specs.Inner.Kept.{progress_of, HasCome}
use Rattle.sw_compact.specs.Inner.Machine.{settle}
use Rattle.sw_compact.proofs.reader.settle_levels.Given as goal

abbrev pub invariant-loop-level : goal.invariant-loop-level
invariant-loop-level l = record {
  come : l.fault ≡ None → HasCome l.builder (reverse l.levels.items);
  same : settle (progress_of l.fault l.builder) (reverse l.levels.items) ≡ settle (progress_of l.fault l.initial.builder) (reverse l.initial.levels.items);
}

abbrev pub decreases-loop-level : goal.decreases-loop-level
decreases-loop-level l = length l.levels.items
