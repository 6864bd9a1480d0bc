-- What bytes stand for up to a closing quotation mark, behind what is there already.
use Rattle.std.specs.Prelude.{ℕ, List, length, Option}
use Rattle.sw_json.specs.Quoted.{before, content}

unfoldable pub unescaped : List ℕ → List ℕ → Option (List ℕ × List ℕ)
unescaped out bytes = before out (content (length bytes) bytes)
