-- What comes next in the innermost list or map, and how a tree stands there.
use Rattle.std.specs.Prelude.{Bool, true, false, ℕ, List, [], codes, Option, Some, None, max, cond}
use Rattle.sw_tree.specs.Tree.{Tree}
use Rattle.sw_json.specs.Text.{json_text}
use Rattle.sw_json.specs.declared.turn.Turn.{Turn}
use Rattle.sw_json.specs.declared.turn.Turn.TheVariants.{Root, First, Item, FirstKey, Key, Value}
use Rattle.sw_json.specs.declared.level.Level.{Level}
use Rattle.sw_json.specs.Inner.Text.{key_text}

abbrev pub next_turn : Turn → Turn
next_turn Root = Root
next_turn First = Item
next_turn Item = Item
next_turn FirstKey = Value
next_turn Key = Value
next_turn Value = Key

abbrev pub is_key : Turn → Bool
is_key Root = false
is_key First = false
is_key Item = false
is_key FirstKey = true
is_key Key = true
is_key Value = false

-- whether it is in a list or map
abbrev pub is_inside : Turn → Bool
is_inside Root = false
is_inside First = true
is_inside Item = true
is_inside FirstKey = true
is_inside Key = true
is_inside Value = true

-- what stands in front of the next part
abbrev pub separator : Turn → List ℕ
separator Root = []
separator First = []
separator Item = codes ","
separator FirstKey = []
separator Key = codes ","
separator Value = codes ":"

-- what the tree prints as there
abbrev pub piece : Turn → Tree → Option (List ℕ)
piece Root t = json_text t
piece First t = json_text t
piece Item t = json_text t
piece FirstKey t = key_text t
piece Key t = key_text t
piece Value t = json_text t

abbrev pub bracket : Bool → List ℕ
bracket false = codes "["
bracket true = codes "{"

-- what an open list or map begins with there
abbrev pub opening : Turn → Bool → Option (List ℕ)
opening Root b = Some (bracket b)
opening First b = Some (bracket b)
opening Item b = Some (bracket b)
opening FirstKey b = None
opening Key b = None
opening Value b = Some (bracket b)

-- what a list or map ends with
abbrev pub ending : Turn → List ℕ
ending Root = []
ending First = codes "]"
ending Item = codes "]"
ending FirstKey = codes "}"
ending Key = codes "}"
ending Value = codes "}"

-- what comes first in a list, or in a map
abbrev pub first_turn : Bool → Turn
first_turn false = First
first_turn true = FirstKey

-- a list or map with nothing in it
abbrev pub first_level : Bool → Level
first_level b = record { turn = first_turn b; height = 0 }

-- the levels of the deepest part once there is a further one of so many; at the outermost nothing is counted
abbrev pub height_after : Level → ℕ → ℕ
height_after l n = cond (is_inside l.turn) (max l.height n) l.height

-- with a further part of so many levels
abbrev pub after : Level → ℕ → Level
after l n = record { turn = next_turn l.turn; height = height_after l n }
