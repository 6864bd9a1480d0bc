use Rattle.std.proofs.Common.{length}
use Rattle.std.specs.Prelude.{reverse}
use Rattle.sw_json.proofs.Stands.{Stands}
use Rattle.sw_json.proofs.reader.read_tree.Given as goal

abbrev pub invariant-tokens : goal.invariant-tokens
invariant-tokens l = Stands l.bytes l.place (reverse l.levels.items) l.fault l.builder l.rest

abbrev pub decreases-tokens : goal.decreases-tokens
decreases-tokens l = length l.rest
