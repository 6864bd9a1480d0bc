use Rattle.sw_tree.specs.Laws.Meant.{text_meaning-is}
use Rattle.sw_tree.proofs.leaves.StringMeant.in_hand.Goals as goal

pub returns : goal.returns
returns c = text_meaning-is c.args.self.now
