-- What the code's answers on quoted texts stand for.
use Rattle.std.specs.Prelude.{ℕ, List, Bool, true, false}
use Rattle.sw_json.specs.declared.quoted.Quoted.{Quoted}
use Rattle.sw_json.specs.declared.quoted.Quoted.TheVariants.{Plain, Escaped}

-- the bytes between the quotation marks
abbrev pub spelling_in : Quoted → List ℕ
spelling_in (Plain s) = s.now
spelling_in (Escaped s) = s.now

-- the text, where that is in the buffer
abbrev pub text_in : List ℕ → Quoted → List ℕ
text_in buffer (Plain s) = s.now
text_in buffer (Escaped s) = buffer

abbrev pub is_escaped : Quoted → Bool
is_escaped (Plain s) = false
is_escaped (Escaped s) = true

-- the spelling, the text, and what is behind the closing quotation mark
abbrev pub parts : List ℕ → Quoted → List ℕ → List ℕ × (List ℕ × List ℕ)
parts buffer q rest = (spelling_in q, (text_in buffer q, rest))
