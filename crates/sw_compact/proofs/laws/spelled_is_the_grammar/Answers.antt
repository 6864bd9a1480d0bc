use Rattle.sw_tree.specs.Laws.Wires.{tree_found, tree_spelled, cause_found, cause_spelled}
use Rattle.sw_compact.specs.Spelled.{spells, spells1, spelled, spelled1}
use Rattle.sw_compact.specs.Laws.Grammar.{grammar, grammar1}
use Rattle.sw_compact.proofs.laws.spelled_is_the_grammar.Goals as goal

pub returns-clause-tree : goal.returns-clause-tree
returns-clause-tree c = λ b t. (tree_spelled spells spelled grammar b t, tree_found spells spelled grammar b t)

pub returns-clause-none : goal.returns-clause-none
returns-clause-none c = λ b e. (cause_spelled spells spelled grammar b e, cause_found spells spelled grammar b e)

pub returns-clause-tree1 : goal.returns-clause-tree1
returns-clause-tree1 c = λ b t. (tree_spelled spells1 spelled1 grammar1 b t, tree_found spells1 spelled1 grammar1 b t)

pub returns-clause-none1 : goal.returns-clause-none1
returns-clause-none1 c = λ b e. (cause_spelled spells1 spelled1 grammar1 b e, cause_found spells1 spelled1 grammar1 b e)
