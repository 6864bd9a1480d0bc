use Rattle.sw_tree.specs.Number.{key_number}
use Rattle.sw_tree.specs.Tree.{int_at}
use Rattle.sw_tree.specs.Inner.View.{seen}
use Rattle.sw_elem.specs.KeyPlace.{keyed_reads}
use Rattle.sw_elem.specs.Numbers.{ranged_or_invalid}
use Rattle.sw_elem.proofs.KeyTexts.{then_refused}
use Rattle.sw_elem.proofs.integer.number_at.Goals as goal

pub returns-in-Err : goal.returns-in-Err
returns-in-Err g c = then_refused (keyed_reads int_at key_number) (ranged_or_invalid g.N.Integer.fits) c.args.mode (seen c.args.view) c.in-Err.refusal c.in-Err.ensures
