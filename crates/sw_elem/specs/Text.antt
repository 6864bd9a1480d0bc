-- What the calls of a text form answer, and its law.
use Rattle.std.specs.Prelude.{Option, Some, None, Result, ◌≡◌, option_map, ℕ, List}
use Rattle.std.specs.Str.{IsUtf8}
use Rattle.sw_tree.specs.Answered.{AnsweredOption, AnsweredFreely}
use Rattle.sw_tree.specs.Meaning.{Meaning}
use Rattle.sw_check.specs.TextClass.{IsOfClass}
use Rattle.sw_check.specs.declared.class.TextClass.{TextClass}
use Rattle.sw_elem.specs.declared.text.ParseFail.{ParseFail}
use Rattle.sw_elem.specs.declared.text.ParseFail.TheVariants as fail

-- the cause that an error tells
abbrev pub parse_cause : ParseFail → Option ParseFail
parse_cause fail.Refused = Some fail.Refused
parse_cause fail.Memory = None

-- a value exactly where the text has one, Refused exactly where it has none, or want of memory
abbrev pub IsParsed : {T : Type 0} → (T → Meaning) → Result T ParseFail → Option Meaning → Type 0
IsParsed f = AnsweredOption f parse_cause

-- the same of a parsing that takes no memory
abbrev pub IsParsedFreely : {T : Type 0} → (T → Meaning) → Option T → Option Meaning → Type 0
IsParsedFreely f found r = r ≡ option_map f found

-- no want of memory
abbrev pub ParsesFreely : {T : Type 0} → Result T ParseFail → Type 0
ParsesFreely = AnsweredFreely parse_cause

-- what is shown of one of the type's meanings parses as it, is of the class, and is UTF-8; and what parses of a text that is UTF-8 is one of them
pub record LawfulText (P : Meaning → Type 0) (shows : Meaning → List ℕ) (parses : List ℕ → Option Meaning) (class : TextClass) : Type 0 where
  pub shown : (v : Meaning) → P v → parses (shows v) ≡ Some v
  pub classed : (v : Meaning) → P v → IsOfClass class (shows v)
  pub utf8 : (v : Meaning) → P v → IsUtf8 (shows v)
  pub parsed : (s : List ℕ) (v : Meaning) → IsUtf8 s → parses s ≡ Some v → P v
