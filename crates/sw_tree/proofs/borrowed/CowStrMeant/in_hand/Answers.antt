use Rattle.std.proofs.Common.{◌≡◌, true, subst}
use Rattle.std.specs.Str.{is_utf8}
use Rattle.std.proofs.lemmas.Str.{is_utf8-from_IsUtf8}
use Rattle.sw_tree.proofs.borrowed.CowStrMeant.in_hand.Goals as goal

pub returns : goal.returns
returns c =
    let whole = is_utf8-from_IsUtf8 c.as_bytes-bytes.result.now c.as_bytes-bytes.ensures.utf8 in
    subst (λ s. is_utf8 s ≡ true) c.as_str.ensures.value (subst (λ s. is_utf8 s ≡ true) c.as_bytes-bytes.ensures.value whole)
