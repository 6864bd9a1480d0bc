use Rattle.sw_compact.specs.Laws.Prefix.{no_text_within}
use Rattle.sw_compact.proofs.laws.texts_end.Goals as goal

pub returns : goal.returns
returns c = no_text_within
