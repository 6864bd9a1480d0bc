use Rattle.std.proofs.Common.{subst}
use Rattle.sw_compact.specs.Inner.Appended.{IsTurned}
use Rattle.sw_compact.proofs.Closing.{settled-anew}
use Rattle.sw_compact.proofs.writer.settle.Goals as goal

pub returns : goal.returns
returns c =
    subst (IsTurned c.respell.result c.args.out.now.items c.respell.new.out.items)
    (settled-anew c.args.version c.args.out.now.items c.args.inner c.count-count.result c.requires c.count-count.ensures)
    c.respell.ensures
