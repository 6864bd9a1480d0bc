use Rattle.std.proofs.Common.{subst}
use Rattle.sw_compact.specs.Inner.Appended.{IsAppended}
use Rattle.sw_compact.proofs.Signs.{negative-bytes}
use Rattle.sw_compact.proofs.number.push_signed.Goals as goal

pub returns-else-value-ge0 : goal.returns-else-value-ge0
returns-else-value-ge0 c =
    let k = c.push_number-else-value-ge0 in
    subst (IsAppended k.result c.args.out.now.items k.new.out.items) (negative-bytes c.args.value c.ranges.value c.if-value-ge0.false) k.ensures
