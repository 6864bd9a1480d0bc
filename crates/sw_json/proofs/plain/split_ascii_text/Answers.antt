use Rattle.std.proofs.Common.{◌≡◌, ◌∷◌, take, drop, ap, sym, ◌∙◌}
use Rattle.sw_json.specs.Bytes.{behind}
use Rattle.sw_json.specs.Inner.Plain.{is_plain_ascii}
use Rattle.sw_json.proofs.Stops.{front_len, behind_len, ascii_run, ascii_utf8}
use Rattle.sw_json.proofs.plain.split_ascii_text.Goals as goal

pub from_utf8_unchecked-requires : goal.from_utf8_unchecked-requires
from_utf8_unchecked-requires c =
    ascii_utf8 c.args.bytes.now c.split_at.result.0.now (c.split_at.ensures.front ∙ ap (λ n. take n c.args.bytes.now) c.ascii_len.ensures.value)

pub returns-in-Some-eq34-default-clause-front : goal.returns-in-Some-eq34-default-clause-front
returns-in-Some-eq34-default-clause-front c =
    let bytes = c.args.bytes.now in
    let rest = c.in-Some-eq34-default.rest.now in
    let met : behind is_plain_ascii bytes ≡ 34 ∷ rest = behind_len is_plain_ascii bytes ∙ ap (λ n. drop n bytes) (sym c.ascii_len.ensures.value) ∙ sym c.split_at.ensures.back ∙ c.in-Some-eq34-default.ensures.cases.0 ∙ ap (λ b. b ∷ rest) c.in-Some-eq34-default.field-0-0-test in
    c.from_utf8_unchecked.ensures ∙ c.split_at.ensures.front ∙ ap (λ n. take n bytes) c.ascii_len.ensures.value ∙ sym (front_len is_plain_ascii bytes) ∙ (ascii_run bytes rest met).0

pub returns-in-Some-eq34-default-clause-behind : goal.returns-in-Some-eq34-default-clause-behind
returns-in-Some-eq34-default-clause-behind c =
    let bytes = c.args.bytes.now in
    let rest = c.in-Some-eq34-default.rest.now in
    let met : behind is_plain_ascii bytes ≡ 34 ∷ rest = behind_len is_plain_ascii bytes ∙ ap (λ n. drop n bytes) (sym c.ascii_len.ensures.value) ∙ sym c.split_at.ensures.back ∙ c.in-Some-eq34-default.ensures.cases.0 ∙ ap (λ b. b ∷ rest) c.in-Some-eq34-default.field-0-0-test in
    (ascii_run bytes rest met).1
