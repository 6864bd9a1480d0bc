use Rattle.std.proofs.Common.{◌≡◌, ◌<◌, length, Some, ◌∷◌, ◌++◌, ap, sym, ◌∙◌, arith}
use Rattle.std.specs.Char.{encode_utf8}
use Rattle.sw_json.specs.Bytes.{is_plain, front, behind}
use Rattle.sw_json.specs.Inner.Unescaping.{unescaped}
use Rattle.sw_json.proofs.Unescapes.{closed_there, ended_there, stuck_there, refused_there, goes_on, after_shorter, escape_shorter}
use Rattle.sw_json.proofs.quoted.unescape.Goals as goal

pub returns-in_default-clause-value : goal.returns-in_default-clause-value
returns-in_default-clause-value c =
    ended_there _ c.runs.out.items c.runs.rest.now c.runs.invariant.same (ap length (sym c.split_plain.ensures.behind) ∙ c.in_default.ensures.cases)

pub returns-then-first-eq34-clause-value : goal.returns-then-first-eq34-clause-value
returns-then-first-eq34-clause-value c =
    let pushed : c.extend_from_slice.new.self.items ≡ c.runs.out.items ++ front is_plain c.runs.rest.now = c.in_ok-extend_from_slice.ensures.items ∙ ap (λ r. c.runs.out.items ++ r) c.split_plain.ensures.front in
    let met : behind is_plain c.runs.rest.now ≡ c.in-Some.first.now ∷ c.in-Some.after.now = sym c.split_plain.ensures.behind ∙ c.in-Some.ensures.cases.0 in
    ap (λ s. Some (s, c.in-Some.after.now)) pushed ∙ closed_there _ c.runs.out.items c.runs.rest.now c.in-Some.after.now c.in-Some.first.now c.runs.invariant.same met c.if-first-eq34.true

pub returns-then-first-eq34-clause-shorter : goal.returns-then-first-eq34-clause-shorter
returns-then-first-eq34-clause-shorter c =
    let met : behind is_plain c.runs.rest.now ≡ c.in-Some.first.now ∷ c.in-Some.after.now = sym c.split_plain.ensures.behind ∙ c.in-Some.ensures.cases.0 in
    let less : length c.in-Some.after.now < length c.runs.rest.now = after_shorter c.runs.rest.now c.in-Some.after.now c.in-Some.first.now met in
    omega arith

pub returns-then-first-ne92-clause-value : goal.returns-then-first-ne92-clause-value
returns-then-first-ne92-clause-value c =
    let met : behind is_plain c.runs.rest.now ≡ c.in-Some.first.now ∷ c.in-Some.after.now = sym c.split_plain.ensures.behind ∙ c.in-Some.ensures.cases.0 in
    stuck_there _ c.runs.out.items c.runs.rest.now c.in-Some.after.now c.in-Some.first.now c.runs.invariant.same met c.if-first-eq34.false c.if-first-ne92.true

pub returns-in_default-read_escape-clause-value : goal.returns-in_default-read_escape-clause-value
returns-in_default-read_escape-clause-value c =
    let met : behind is_plain c.runs.rest.now ≡ c.in-Some.first.now ∷ c.in-Some.after.now = sym c.split_plain.ensures.behind ∙ c.in-Some.ensures.cases.0 in
    refused_there _ c.runs.out.items c.runs.rest.now c.in-Some.after.now c.in-Some.first.now c.runs.invariant.same met c.if-first-ne92.false (sym c.in_default-read_escape.ensures)

pub runs-smaller : goal.runs-smaller
runs-smaller c =
    let met : behind is_plain c.runs.rest.now ≡ c.in-Some.first.now ∷ c.in-Some.after.now = sym c.split_plain.ensures.behind ∙ c.in-Some.ensures.cases.0 in
    escape_shorter c.runs.rest.now c.in-Some.after.now c.in-Some-read_escape.after.now c.in-Some.first.now c.in-Some-read_escape.character met (sym c.in-Some-read_escape.ensures)

pub runs-preserved : goal.runs-preserved
runs-preserved c =
    let pushed : c.extend_from_slice.new.self.items ≡ c.runs.out.items ++ front is_plain c.runs.rest.now = c.in_ok-extend_from_slice.ensures.items ∙ ap (λ r. c.runs.out.items ++ r) c.split_plain.ensures.front in
    let met : behind is_plain c.runs.rest.now ≡ c.in-Some.first.now ∷ c.in-Some.after.now = sym c.split_plain.ensures.behind ∙ c.in-Some.ensures.cases.0 in
    let read = sym c.in-Some-read_escape.ensures in
    let less : length c.in-Some-read_escape.after.now < length c.runs.rest.now = escape_shorter c.runs.rest.now c.in-Some.after.now c.in-Some-read_escape.after.now c.in-Some.first.now c.in-Some-read_escape.character met read in
    record {
      same = ap (λ s. unescaped s c.in-Some-read_escape.after.now) (c.in_ok-push_character.ensures ∙ ap (λ s. s ++ encode_utf8 c.in-Some-read_escape.character) pushed)
          ∙ goes_on _ c.runs.out.items c.runs.rest.now c.in-Some.after.now c.in-Some-read_escape.after.now c.in-Some.first.now c.in-Some-read_escape.character c.runs.invariant.same met c.if-first-ne92.false read;
      within = omega arith;
    }
