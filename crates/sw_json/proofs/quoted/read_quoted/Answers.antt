use Rattle.std.proofs.Common.{◌≡◌, ap, sym, ◌∙◌, length, ◌∷◌, ◌++◌, arith}
use Rattle.sw_json.specs.Bytes.{is_plain, front, behind}
use Rattle.sw_json.proofs.Unescapes.{behind_fits}
use Rattle.sw_json.proofs.ReadQuoted.{closed_first, ended_first, stuck_first, escaped_value, escaped_text, escaped_variant, is_unslashed}
use Rattle.sw_json.proofs.quoted.read_quoted.Goals as goal

pub returns-in_default-clause-value : goal.returns-in_default-clause-value
returns-in_default-clause-value c = ended_first c.args.bytes.now (ap length (sym c.split_plain.ensures.behind) ∙ c.in_default.ensures.cases)

pub returns-then-first-eq34-clause-value : goal.returns-then-first-eq34-clause-value
returns-then-first-eq34-clause-value c =
    let met : behind is_plain c.args.bytes.now ≡ c.in-Some.first.now ∷ c.in-Some.rest.now = sym c.split_plain.ensures.behind ∙ c.in-Some.ensures.cases.0 in
    c.plain.ensures.value _ ∙ closed_first c.args.bytes.now c.split_plain.result.0.now c.in-Some.rest.now c.in-Some.first.now c.split_plain.ensures.front met c.if-first-eq34.true

pub returns-then-first-eq34-clause-variant : goal.returns-then-first-eq34-clause-variant
returns-then-first-eq34-clause-variant c =
    is_unslashed c.clear.new.self.items c.args.bytes.now c.split_plain.result.0.now c.in-Some.rest.now c.plain.result c.split_plain.ensures.front (c.plain.ensures.value c.clear.new.self.items) c.plain.ensures.variant

pub returns-then-first-ne92-clause-value : goal.returns-then-first-ne92-clause-value
returns-then-first-ne92-clause-value c =
    let met : behind is_plain c.args.bytes.now ≡ c.in-Some.first.now ∷ c.in-Some.rest.now = sym c.split_plain.ensures.behind ∙ c.in-Some.ensures.cases.0 in
    stuck_first c.args.bytes.now c.in-Some.rest.now c.in-Some.first.now met c.if-first-eq34.false c.if-first-ne92.true

pub escaped-requires : goal.escaped-requires
escaped-requires c = omega (arith, behind_fits c.args.bytes.now, ap length c.split_plain.ensures.behind)

pub returns : goal.returns
returns c =
    let bytes = c.args.bytes.now in
    let out = c.escaped.new.buffer.items in
    let pushed : c.extend_from_slice.new.self.items ≡ front is_plain bytes = c.in_ok-extend_from_slice.ensures.items ∙ ap (λ s. s ++ c.split_plain.result.0.now) c.clear.ensures.items ∙ c.split_plain.ensures.front in
    let met : behind is_plain bytes ≡ c.in-Some.first.now ∷ c.in-Some.rest.now = sym c.split_plain.ensures.behind ∙ c.in-Some.ensures.cases.0 in
    let read = escaped_value out bytes c.extend_from_slice.new.self.items c.split_plain.result.1.now c.escaped.result pushed c.split_plain.ensures.behind c.escaped.ensures.value in
    record {
      value = read;
      utf8 = escaped_text out bytes c.escaped.result read;
      variant = escaped_variant out bytes c.in-Some.rest.now c.in-Some.first.now c.escaped.result met c.if-first-ne92.false read c.escaped.ensures.variant;
    }
