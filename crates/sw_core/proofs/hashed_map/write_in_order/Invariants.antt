use Rattle.std.proofs.Common.{◌≡◌, true, [], map, Bor}
use Rattle.sw_tree.specs.Meaning.{meanings, parts}
use Rattle.sw_tree.specs.Meant.{pair_meaning}
use Rattle.sw_tree.specs.Mode.{at_key, at_value}
use Rattle.sw_tree.specs.Placed.{pair_of}
use Rattle.sw_tree.specs.Sorted.{sort_onto}
use Rattle.sw_core.specs.Entries.{pair_writes}
use Rattle.sw_core.specs.Inner.Putting.{all_put_pairs}
use Rattle.sw_core.proofs.hashed_map.write_in_order.Given as goal

abbrev pub invariant-loop-key : goal.invariant-loop-key
invariant-loop-key g l =
    let keys = g.KA.SerializeAs.writes (at_key l.mode) in
    let values = g.VA.SerializeAs.writes (at_value l.mode) in
    let put = g.B.Builds.put in
    all_put_pairs put (pair_writes keys values) (parts (meanings (map (pair_meaning g.K.Named.meaning g.V.Named.meaning) (sort_onto g.K.Ord.cmp [] l.source.entries)))) (g.B.Builds.opened true l.fn.out)
    ≡ all_put_pairs put (pair_of (λ (x : Bor g.row.K.Denot). keys (g.K.Named.meaning x.now)) (λ (y : Bor g.row.V.Denot). values (g.V.Named.meaning y.now))) l.key-iterator l.out
