use Rattle.std.proofs.lemmas.Bool.Decides.{Decides-eqb}
use Rattle.std.proofs.lemmas.Slice.Eq.{strip_prefix_is}
use Rattle.sw_json.proofs.Lexemes.{word_read}
use Rattle.sw_json.proofs.lexer.behind_word.Goals as goal

pub returns : goal.returns
returns c = word_read c.args.word.now c.args.bytes.now _ (strip_prefix_is Decides-eqb c.args.bytes.now c.args.word.now _ c.strip_prefix.ensures.cases)
