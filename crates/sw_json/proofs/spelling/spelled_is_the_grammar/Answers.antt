use Rattle.sw_json.proofs.Completion.{tree_spelled, err_spelled, err_found}
use Rattle.sw_json.specs.Laws.Completion.{tree_found}
use Rattle.sw_json.proofs.spelling.spelled_is_the_grammar.Goals as goal

pub returns-clause-tree : goal.returns-clause-tree
returns-clause-tree c = λ bytes t. (tree_spelled bytes t, tree_found bytes t)

pub returns-clause-none : goal.returns-clause-none
returns-clause-none c = λ bytes e. (err_spelled bytes e, err_found bytes e)
