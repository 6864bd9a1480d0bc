use Rattle.std.proofs.Common.{ap, Some, ◌∙◌}
use Rattle.sw_compact.proofs.Finishing.{text_put, text_short}
use Rattle.sw_compact.proofs.Marks.{few_items}
use Rattle.sw_compact.proofs.writer.CompactWriter.finish.Goals as goal

pub returns-clause-text : goal.returns-clause-text
returns-clause-text c v t e = ap Some (text_put _ v _ _ _ t c.self.invariant (c.self.view_is ∙ e))

pub returns-clause-short : goal.returns-clause-short
returns-clause-short c v t e = text_short v t _ (text_put _ v _ _ _ t c.self.invariant (c.self.view_is ∙ e)) (few_items c.self.inside.out)
