use Rattle.std.proofs.Common.{subst, sym, ◌∙◌, to_z-of_z}
use Rattle.sw_json.specs.Inner.Pushed.{IsPushed}
use Rattle.sw_json.proofs.Digits.{key_part}
use Rattle.sw_json.proofs.piece.put_short.Goals as goal

pub returns-then-is_key : goal.returns-then-is_key
returns-then-is_key c =
    let back = to_z-of_z c.ranges.value in
    subst (IsPushed c.put_quoted_digits.result c.args.out.now.items c.put_quoted_digits.new.out.items)
    (key_part c.args.turn c.args.value (sym c.is_key.ensures ∙ c.if-is_key.true))
    (rw back at c.put_quoted_digits.ensures)
