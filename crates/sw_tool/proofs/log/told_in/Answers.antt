use Rattle.sw_tree.specs.Path.{HasPlace}
use Rattle.sw_tree.specs.Inner.View.{seen}
use Rattle.sw_tree.specs.declared.fail.Refusal.{Refusal}
use Rattle.sw_tool.proofs.Logged.{each_at, told_none, told_more}
use Rattle.sw_tool.proofs.log.told_in.Goals as goal

pub push_entry-requires : goal.push_entry-requires
push_entry-requires c = each_at (λ (r : Refusal). HasPlace (seen c.args.view) r.place) c.args.log.now c.loop-refusal.refusal-index _ c.loop-refusal-test.true c.requires

pub loop-refusal-init : goal.loop-refusal-init
loop-refusal-init c = told_none _ _ _ c.in_ok-text.ensures

pub loop-refusal-preserved : goal.loop-refusal-preserved
loop-refusal-preserved c = told_more _ _ c.args.log.now c.loop-refusal.refusal-index _ _ _ c.loop-refusal-test.true c.loop-refusal.invariant c.in_ok-push_entry.ensures
