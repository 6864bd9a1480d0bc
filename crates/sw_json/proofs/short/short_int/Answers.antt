use Rattle.std.proofs.Common.{sym, ◌∙◌}
use Rattle.sw_json.specs.Bytes.{is_digit, front}
use Rattle.sw_json.proofs.ShortNumbers.{front_leads}
use Rattle.sw_json.proofs.short.short_int.Goals as goal

pub returns : goal.returns
returns c = record {
  first = c.in_ok-first.first.now;
  more = front is_digit _;
  digits = front_leads c.args.bytes.now _ c.in_ok-first.first.now c.in_ok-first.ensures.cases.0 (sym c.is_leading.ensures ∙ c.if-not-is_leading.false);
  leading = sym c.is_leading.ensures ∙ c.if-not-is_leading.false;
  value = c.in_ok-value.ensures.value;
  small = c.in_ok-value.ensures.bound;
  rest_is = c.in_ok-value.ensures.behind;
  stops = c.if-not-ends_number.ensures;
}
