use Rattle.sw_tree.proofs.NumberLemmas.{wide_int}
use Rattle.sw_tree.proofs.number.int_value.Goals as goal

pub returns-then-first-ne48 : goal.returns-then-first-ne48
returns-then-first-ne48 c = wide_int c.in_ok-first.first.now c.in_ok-first.rest.now c.args.int.now c.value.result c.in_ok-first.ensures.cases.0 c.if-first-ne48.true c.value.ensures
