use Rattle.std.proofs.Common.{subst, to_z-of_z}
use Rattle.sw_json.specs.Inner.Pushed.{IsPushed}
use Rattle.sw_json.proofs.Digits.{digits_part}
use Rattle.sw_json.proofs.piece.put_short_text.Goals as goal

pub returns : goal.returns
returns c =
    let back = to_z-of_z c.ranges.value in
    subst (IsPushed c.put_quoted_digits.result c.args.out.now.items c.put_quoted_digits.new.out.items)
    (digits_part c.args.turn c.args.value)
    (rw back at c.put_quoted_digits.ensures)
