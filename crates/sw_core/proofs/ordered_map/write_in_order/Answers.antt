use Rattle.std.proofs.Common.{true, sym, ap, ◌∙◌}
use Rattle.sw_tree.specs.Mode.{at_key, at_value}
use Rattle.sw_tree.specs.Placed.{pair_of}
use Rattle.sw_core.specs.Inner.Putting.{all_put_pairs}
use Rattle.sw_core.specs.Laws.Putting.{map_opened}
use Rattle.sw_core.proofs.ordered_map.write_in_order.Goals as goal

pub loop-key-init : goal.loop-key-init
loop-key-init g c =
    let keys = g.KA.SerializeAs.writes (at_key c.args.mode) in
    let values = g.VA.SerializeAs.writes (at_value c.args.mode) in
    let put = g.B.Builds.put in
    let each = pair_of (λ (x : g.row.K.Denot). keys (g.K.Named.meaning x)) (λ (y : g.row.V.Denot). values (g.V.Named.meaning y)) in
    map_opened put keys values g.K.Named.meaning g.V.Named.meaning c.args.source.now.entries (g.B.Builds.opened true c.args.out.now) c.open_map.new.self c.in_ok-open_map.ensures
    ∙ ap (λ es. all_put_pairs put each es c.open_map.new.self) (sym (c.into_iter-key-iterator.ensures.into_iter_gives ∙ c.iter-key-items.ensures.rest))
