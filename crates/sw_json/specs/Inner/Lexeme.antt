-- What the code's lexemes stand for, where the text that is spelled with escapes is in a buffer.
use Rattle.std.specs.Prelude.{ℕ, List, ◌≡◌}
use Rattle.sw_json.specs.Token.{Token}
use Rattle.sw_json.specs.Quoted.{has_escape}
use Rattle.sw_json.specs.declared.lexer.Lexeme.{Lexeme}
use Rattle.sw_json.specs.declared.lexer.Lexeme.TheVariants.{Null, Truth, Number, Text, OpenList, CloseList, OpenMap, CloseMap, Comma, Colon}
use Rattle.sw_json.specs.Inner.QuotedParts.{spelling_in, text_in, is_escaped}

abbrev pub token_of : List ℕ → ℕ → Lexeme → Token
token_of buffer at Null = Token.null at
token_of buffer at (Truth b) = Token.truth at b
token_of buffer at (Number s) = Token.number at s.now
token_of buffer at (Text q) = Token.text (record { at = at; spelling = spelling_in q; text = text_in buffer q })
token_of buffer at OpenList = Token.open_list at
token_of buffer at CloseList = Token.close_list
token_of buffer at OpenMap = Token.open_map at
token_of buffer at CloseMap = Token.close_map
token_of buffer at Comma = Token.comma
token_of buffer at Colon = Token.colon

-- of a text it tells whether its spelling has an escape
abbrev pub TellsEscape : Lexeme → Type 0
TellsEscape (Text q) = is_escaped q ≡ has_escape (spelling_in q)
TellsEscape l = Unit {0}
