use Rattle.sw_json.specs.Laws.Printed.{printed_spelled}
use Rattle.sw_json.proofs.spelling.printed_text_spells_the_tree.Goals as goal

pub returns : goal.returns
returns c = printed_spelled
