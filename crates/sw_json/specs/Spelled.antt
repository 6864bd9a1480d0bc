-- What bytes spell.
use Rattle.std.specs.Prelude.{◌≡◌, ℕ, List, Option, option_and_then, ◌+◌, [], length, Some, None, Result, Err}
use Rattle.sw_tree.specs.Tree.{Tree}
use Rattle.sw_tree.specs.Raw as shape
use Rattle.sw_tree.specs.Faults as fault
use Rattle.sw_tree.specs.Wires.{Grammar, Spelled}
use Rattle.sw_tree.specs.declared.fail.WireError.{WireError}
use Rattle.sw_tree.specs.declared.fail.WireError.TheVariants as wire
use Rattle.sw_json.specs.Raw.{Raw}
use Rattle.sw_json.specs.Grammar.{Spells}
use Rattle.sw_json.specs.Shape.{shape_of}
use Rattle.sw_json.specs.Lexing.{lex}
use Rattle.sw_json.specs.Machine.{State, run, value}
use Rattle.sw_json.specs.Escaped.{escaped}

-- The bytes spell a JSON raw tree, which has that shape.
pub record SpellsShape (bytes : List ℕ) (s : shape.Raw) : Type 0 where
  pub raw : Raw
  pub spelled : Spells 0 bytes raw
  pub shape_is : shape_of raw ≡ s

-- the grammar of JSON texts
abbrev pub spells : Grammar
spells bytes s = SpellsShape bytes s

-- The bytes spell a raw tree whose texts with escapes are this long together.
pub record HasEscaped (bytes : List ℕ) (n : ℕ) : Type 0 where
  pub raw : Raw
  pub spelled : Spells 0 bytes raw
  pub length_is : n ≡ escaped raw

-- what the bytes, which end at this offset and hold at most so many tokens, complete a state to
abbrev pub completed : ℕ → ℕ → State → List ℕ → Option Raw
completed n end s bytes = option_and_then (run s) (lex n end bytes)

-- the raw tree that the bytes spell from this offset on
unfoldable pub raw_of : ℕ → List ℕ → Option Raw
raw_of off bytes = completed (length bytes) (off + length bytes) (value []) bytes

-- the tree, or its first fault
abbrev pub judged : Option Raw → Result Tree WireError
judged None = Err wire.Syntax
judged (Some raw) = fault.judged (shape_of raw)

-- the tree, or why there is none
unfoldable pub spelled : Spelled
spelled bytes = judged (raw_of 0 bytes)
