use Rattle.std.proofs.Common.{◌≡◌, true, drop, map}
use Rattle.sw_tree.specs.Meaning.{meanings, parts}
use Rattle.sw_tree.specs.Meant.{pair_meaning}
use Rattle.sw_tree.specs.Mode.{at_key, at_value}
use Rattle.sw_tree.specs.Placed.{pair_of}
use Rattle.sw_core.specs.Entries.{pair_writes}
use Rattle.sw_core.specs.Inner.Putting.{all_put_pairs}
use Rattle.sw_core.proofs.entries.write_entries.Given as goal

abbrev pub invariant-loop-pair : goal.invariant-loop-pair
invariant-loop-pair g l =
    let keys = g.K.SerializeAs.writes (at_key l.mode) in
    let values = g.V.SerializeAs.writes (at_value l.mode) in
    let put = g.B.Builds.put in
    all_put_pairs put (pair_writes keys values) (parts (meanings (map (pair_meaning g.T.Named.meaning g.U.Named.meaning) l.pairs))) (g.B.Builds.opened true l.fn.out)
    ≡ all_put_pairs put (pair_of (λ (x : g.row.T.Denot). keys (g.T.Named.meaning x)) (λ (y : g.row.U.Denot). values (g.U.Named.meaning y))) (drop l.pair-index l.pairs) l.out
