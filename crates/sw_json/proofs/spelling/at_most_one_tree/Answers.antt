use Rattle.sw_json.specs.Laws.Completion.{unique}
use Rattle.sw_json.proofs.spelling.at_most_one_tree.Goals as goal

pub returns : goal.returns
returns c = unique
