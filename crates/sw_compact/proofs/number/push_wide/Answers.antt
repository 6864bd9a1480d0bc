use Rattle.std.proofs.Common.{refl, subst}
use Rattle.sw_compact.specs.Inner.Appended.{IsAppended}
use Rattle.sw_compact.proofs.NumberBytes.{headed, stacked-none, stacked-more}
use Rattle.sw_compact.proofs.number.push_wide.Goals as goal

pub loop-rest-init : goal.loop-rest-init
loop-rest-init c = stacked-none c.args.magnitude _ refl c.ranges.magnitude.fits

pub loop-rest-preserved : goal.loop-rest-preserved
loop-rest-preserved c = stacked-more c.args.magnitude c.loop-rest.at c.loop-rest.rest c.loop-rest.bytes c.loop-rest.invariant c.loop-rest-test.true

pub returns : goal.returns
returns c =
    subst (IsAppended c.append.result c.args.out.now.items c.append.new.out.items)
    (headed c.args.magnitude c.loop-rest.at c.loop-rest.rest c.args.tag c.loop-rest.bytes c.loop-rest.invariant c.loop-rest-test.false)
    c.append.ensures
