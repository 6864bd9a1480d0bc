use Rattle.std.proofs.Common.{true, [], map, sym, ap, ◌∙◌, Bor}
use Rattle.std.specs.Map.Iter.{deref_pair}
use Rattle.sw_tree.specs.Meaning.{meanings, parts}
use Rattle.sw_tree.specs.Meant.{pair_meaning}
use Rattle.sw_tree.specs.Mode.{at_key, at_value}
use Rattle.sw_tree.specs.Placed.{pair_of}
use Rattle.sw_tree.specs.Sorted.{sort_onto}
use Rattle.sw_core.specs.Entries.{pair_writes}
use Rattle.sw_core.specs.Inner.Putting.{all_put_pairs}
use Rattle.sw_core.proofs.Lent.{put_shown}
use Rattle.sw_core.specs.Laws.Putting.{map_opened, map_closed}
use Rattle.sw_core.proofs.hashed_map.write_in_order.Goals as goal

pub loop-key-init : goal.loop-key-init
loop-key-init g c =
    let keys = g.KA.SerializeAs.writes (at_key c.args.mode) in
    let values = g.VA.SerializeAs.writes (at_value c.args.mode) in
    let put = g.B.Builds.put in
    let each = pair_of (λ (x : g.row.K.Denot). keys (g.K.Named.meaning x)) (λ (y : g.row.V.Denot). values (g.V.Named.meaning y)) in
    let lent = pair_of (λ (x : Bor g.row.K.Denot). keys (g.K.Named.meaning x.now)) (λ (y : Bor g.row.V.Denot). values (g.V.Named.meaning y.now)) in
    map_opened put keys values g.K.Named.meaning g.V.Named.meaning (sort_onto g.K.Ord.cmp [] c.args.source.now.entries) (g.B.Builds.opened true c.args.out.now) c.open_map.new.self c.in_ok-open_map.ensures
    ∙ ap (λ es. all_put_pairs put each es c.open_map.new.self) (sym c.in_ok-sorted.ensures)
    ∙ put_shown put deref_pair each c.in_ok-sorted.sorted.entries c.open_map.new.self
    ∙ ap (λ es. all_put_pairs put lent es c.open_map.new.self) (sym (c.into_iter-key-iterator.ensures.into_iter_gives ∙ c.iter-key-items.ensures.rest))

pub returns : goal.returns
returns g c =
    let keys = g.KA.SerializeAs.writes (at_key c.args.mode) in
    let values = g.VA.SerializeAs.writes (at_value c.args.mode) in
    let put = g.B.Builds.put in
    let lent = pair_of (λ (x : Bor g.row.K.Denot). keys (g.K.Named.meaning x.now)) (λ (y : Bor g.row.V.Denot). values (g.V.Named.meaning y.now)) in
    map_closed put g.B.Builds.opened g.B.Builds.closed g.met.B.Builds.maps (pair_writes keys values) (parts (meanings (map (pair_meaning g.K.Named.meaning g.V.Named.meaning) (sort_onto g.K.Ord.cmp [] c.args.source.now.entries))))
    lent c.loop-key.key-iterator c.args.out.now c.loop-key.out c.close.new.self c.close.result c.loop-key.invariant c.in-None.ensures.steps.0 c.close.ensures
