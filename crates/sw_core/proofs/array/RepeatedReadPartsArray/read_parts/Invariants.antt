use Rattle.sw_core.specs.Parts.{reading}
use Rattle.sw_core.proofs.Filling.{Filling}
use Rattle.sw_core.proofs.array.RepeatedReadPartsArray.read_parts.Given as goal

abbrev pub invariant-loop-index : goal.invariant-loop-index
invariant-loop-index g l =
    let x = reading g.A.DeserializeAs.reads g.A.DeserializeAs.spot g.A.DeserializeAs.skips in
    Filling g.T.Named.meaning x l.mode g.row.N l.fn.items l.fn.log l.index l.values l.items l.log
