use Rattle.sw_schema.specs.Inner.Parts.{part_tree}
use Rattle.sw_schema.proofs.SameLemmas.{drop_rest}
use Rattle.sw_schema.proofs.same.after.Goals as goal

pub loop-index-preserved : goal.loop-index-preserved
loop-index-preserved c =
    drop_rest c.args.count c.loop-index._index c.loop-index.items (part_tree c.in-Some._item) c.next.new.self _ c.loop-index-test.true c.in-Some.ensures.steps c.loop-index.invariant
