use Rattle.sw_tree.specs.Mode.{at_key, at_value}
use Rattle.sw_core.specs.Rows.{reader}
use Rattle.sw_core.proofs.EntryFilling.{FillingPairs}
use Rattle.sw_core.proofs.entry_array.fill_in_turn.Given as goal

abbrev pub invariant-loop-index : goal.invariant-loop-index
invariant-loop-index g l =
    let key = reader g.K.DeserializeAs.reads g.K.DeserializeAs.spot g.K.DeserializeAs.skips (at_key l.mode) in
    let value = reader g.V.DeserializeAs.reads g.V.DeserializeAs.spot g.V.DeserializeAs.skips (at_value l.mode) in
    FillingPairs g.T.Named.meaning g.U.Named.meaning key value g.row.N l.fn.entries l.fn.log l.index l.pairs l.entries l.log
