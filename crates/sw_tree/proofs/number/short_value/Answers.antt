use Rattle.sw_tree.proofs.NumberLemmas.{few_digits}
use Rattle.sw_tree.proofs.number.short_value.Goals as goal

pub returns : goal.returns
returns c = few_digits c.args.digits.now c.few_value.result c.few_value.ensures
