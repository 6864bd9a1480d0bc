use Rattle.std.proofs.Common.{subst}
use Rattle.sw_json.specs.Inner.Pushed.{IsPushed}
use Rattle.sw_json.proofs.Digits.{text_part}
use Rattle.sw_json.proofs.Runs.{plain_text}
use Rattle.sw_json.proofs.piece.put_text.Goals as goal

pub returns-then-are_plain : goal.returns-then-are_plain
returns-then-are_plain c =
    subst (IsPushed c.put_plain.result c.args.out.now.items c.put_plain.new.out.items)
    (text_part c.args.turn c.as_bytes-bytes.result.now c.args.value.now (plain_text c.args.value.now c.as_bytes-bytes.result.now c.as_bytes-bytes.ensures.value c.if-are_plain.ensures))
    c.put_plain.ensures
