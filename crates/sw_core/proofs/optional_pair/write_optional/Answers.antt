use Rattle.std.proofs.Common.{refl, true, [], ◌∷◌}
use Rattle.sw_tree.specs.Meant.{pair}
use Rattle.sw_tree.specs.Mode.{at_key, at_value}
use Rattle.sw_core.specs.Entries.{pair_writes}
use Rattle.sw_core.specs.Laws.Putting.{map_closed, pair_put}
use Rattle.sw_core.proofs.optional_pair.write_optional.Goals as goal

pub returns-in_ok-open_map-in-None : goal.returns-in_ok-open_map-in-None
returns-in_ok-open_map-in-None g c =
    let keys = g.K.SerializeAs.writes (at_key c.args.mode) in
    let values = g.V.SerializeAs.writes (at_value c.args.mode) in
    rw c.in-None.is
    (map_closed g.B.Builds.put g.B.Builds.opened g.B.Builds.closed g.met.B.Builds.maps (pair_writes keys values) [] (pair_writes keys values) [] c.args.out.now c.open_map.new.self c.close.new.self c.close.result c.in_ok-open_map-in-None.ensures refl
    c.close.ensures)

pub returns-in_ok-write_as-in-Some-2 : goal.returns-in_ok-write_as-in-Some-2
returns-in_ok-write_as-in-Some-2 g c =
    let keys = g.K.SerializeAs.writes (at_key c.args.mode) in
    let values = g.V.SerializeAs.writes (at_value c.args.mode) in
    let key = g.T.Named.meaning c.in-Some.pair.0 in
    let value = g.U.Named.meaning c.in-Some.pair.1 in
    let put = g.B.Builds.put in
    rw c.in-Some.is
    (map_closed put g.B.Builds.opened g.B.Builds.closed g.met.B.Builds.maps (pair_writes keys values) (pair key value ∷ []) (pair_writes keys values) [] c.args.out.now c.write_as-in-Some.new.out c.close-in-Some.new.self c.close-in-Some.result
    (pair_put put (keys key) (values value) (g.B.Builds.opened true c.args.out.now) c.open_map-in-Some.new.self c.write_as.new.out c.write_as-in-Some.new.out c.in_ok-open_map-in-Some.ensures
    (rw c.key.ensures at c.in_ok-write_as-in-Some.ensures) (rw c.value.ensures at c.in_ok-write_as-in-Some-2.ensures)) refl c.close-in-Some.ensures)
