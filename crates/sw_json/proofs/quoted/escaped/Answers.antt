use Rattle.std.proofs.Common.{◌≡◌, true, false, List, ℕ, ap, sym, ◌∙◌, Bor}
use Rattle.std.specs.Str.{is_utf8}
use Rattle.sw_json.proofs.ReadQuoted.{utf8_is, accepted, refused}
use Rattle.sw_json.proofs.quoted.escaped.Goals as goal

pub returns-then-is_err-clause-value : goal.returns-then-is_err-clause-value
returns-then-is_err-clause-value c =
    let text = c.unescape.new.out.items in
    let read = rw c.in-Some.is at c.in_ok-rest.ensures.value in
    let wrong : is_utf8 text ≡ false = ap is_utf8 (sym c.deref.ensures.value) ∙ utf8_is (λ (s : Bor (List ℕ)). s.now ≡ c.deref.result.now) c.deref.result.now c.from_utf8.result true c.if-is_err.ensures.value c.from_utf8.ensures in
    refused c.args.bytes.now text c.in-Some.rest.now _ read wrong

pub returns-clause-value : goal.returns-clause-value
returns-clause-value c =
    let text = c.unescape.new.out.items in
    let read = rw c.in-Some.is at c.in_ok-rest.ensures.value in
    let right : is_utf8 text ≡ true = ap is_utf8 (sym c.deref.ensures.value) ∙ utf8_is (λ (s : Bor (List ℕ)). s.now ≡ c.deref.result.now) c.deref.result.now c.from_utf8.result false c.if-is_err.ensures.value c.from_utf8.ensures in
    accepted c.args.bytes.now text c.in-Some.rest.now _ read right
