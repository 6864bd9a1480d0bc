use Rattle.std.proofs.Common.{arith}
use Rattle.std.proofs.lemmas.Bool.Decides.{nat_tests}
use Rattle.sw_json.specs.Laws.Lexemes.{IsOther}
use Rattle.sw_json.proofs.Lexemes.{text_read, literal_read}
use Rattle.sw_json.proofs.lexer.read_lexeme.Goals as goal

pub returns-in-34-clause-token : goal.returns-in-34-clause-token
returns-in-34-clause-token c = λ at. rw (text_read at c.args.bytes.now c.in-Some.rest.now c.in-Some.first.now c.in-Some.ensures.cases.0 c.in-34.is) (c.text.ensures.token at)

pub returns-in_default-first-clause-token : goal.returns-in_default-first-clause-token
returns-in_default-first-clause-token c =
    let other : IsOther c.in-Some.first.now = record {
      bracket = grind (arith, nat_tests);
      closing_bracket = grind (arith, nat_tests);
      brace = grind (arith, nat_tests);
      closing_brace = grind (arith, nat_tests);
      comma = grind (arith, nat_tests);
      colon = grind (arith, nat_tests);
      quote = grind (arith, nat_tests);
    } in
    λ at. rw (literal_read at c.args.bytes.now c.in-Some.rest.now c.in-Some.first.now c.in-Some.ensures.cases.0 other) (c.literal_or_number.ensures.token _ at)
