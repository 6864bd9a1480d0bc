use Rattle.std.proofs.Common.{◌^◌}
use Rattle.sw_tree.specs.Meant.{unsigned_meaning, IsBelow}
use Rattle.sw_tree.proofs.MeantLemmas.{list_meaning-is}
use Rattle.sw_tree.proofs.borrowed.RefSliceU8Meant.in_hand.Goals as goal

pub returns : goal.returns
returns c = list_meaning-is unsigned_meaning (IsBelow (2 ^ 8)) c.args.self.now.now c.each_in_hand.ensures
