use Rattle.std.proofs.Common.{◌≡◌, [], ◌∷◌, Some, length, ap, sym, ◌∙◌}
use Rattle.sw_json.specs.Bytes.{is_plain, behind}
use Rattle.sw_json.specs.Text.{escape_of, escaped}
use Rattle.sw_json.proofs.Pushing.{onto, onto-three}
use Rattle.sw_json.proofs.Runs.{run_ends, run_on}
use Rattle.sw_json.proofs.Unescapes.{after_shorter}
use Rattle.sw_json.proofs.leaf.push_escaped.Goals as goal

pub returns-in_default : goal.returns-in_default
returns-in_default c =
    let all = run_ends c.runs.rest.now c.split_plain.result.0.now c.split_plain.ensures.front (ap length (sym c.split_plain.ensures.behind) ∙ c.in_default.ensures.cases) in
    c.runs.invariant ∙ ap (λ s. onto c.runs.out.items (Some s)) all ∙ c.in_ok-append.ensures

pub runs-smaller : goal.runs-smaller
runs-smaller c = after_shorter c.runs.rest.now c.in-Some.after.now c.in-Some.byte.now (sym c.split_plain.ensures.behind ∙ c.in-Some.ensures.cases.0)

pub runs-preserved : goal.runs-preserved
runs-preserved c =
    let met : behind is_plain c.runs.rest.now ≡ c.in-Some.byte.now ∷ c.in-Some.after.now = sym c.split_plain.ensures.behind ∙ c.in-Some.ensures.cases.0 in
    let law = ap Some (run_on c.runs.rest.now c.split_plain.result.0.now c.in-Some.byte.now c.in-Some.after.now c.split_plain.ensures.front met) in
    c.runs.invariant
    ∙ onto-three c.runs.out.items c.append.new.out.items c.push_escape.new.out.items (Some c.split_plain.result.0.now) (Some (escape_of c.in-Some.byte.now)) (Some (escaped c.in-Some.after.now [])) (Some (escaped c.runs.rest.now [])) law c.in_ok-append.ensures c.in_ok-push_escape.ensures
