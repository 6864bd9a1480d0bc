-- Numbers and truth values, for which a text may stand where a key was printed as one.
use Rattle.std.specs.Prelude.{Bool, true, false, ◌&&◌, not, ℕ, List, if◌then◌else◌, Option, Some, None, Result}
use Rattle.std.specs.Option.{option_or, option_and_then}
use Rattle.sw_tree.specs.Tree.{Tree, text}
use Rattle.sw_tree.specs.declared.mode.Mode.{Mode}
use Rattle.sw_tree.specs.declared.mode.WireKind.{WireKind}
use Rattle.sw_tree.specs.declared.mode.WireKind.TheVariants.{Json, Compact}
use Rattle.sw_tree.specs.declared.mode.Place.{Place}
use Rattle.sw_tree.specs.declared.mode.Place.TheVariants.{Value, Key}
use Rattle.sw_tree.specs.declared.fail.DeError.{DeError}
use Rattle.sw_elem.specs.Takes.{takes}

abbrev pub is_json_key : WireKind → Place → Bool
is_json_key Json Key = true
is_json_key Json Value = false
is_json_key Compact Key = false
is_json_key Compact Value = false

-- in key place of JSON, not buffered
abbrev pub is_plain_key : Mode → Bool
is_plain_key m = is_json_key m.wire m.place && not m.buffered

-- a text in that place
abbrev pub key_text : Mode → Tree → Option (List ℕ)
key_text m (text s) = if is_plain_key m then Some s else None
key_text m t = None

-- what a node is, or what its text stands for in that place
abbrev pub keyed_at : {A : Type 0} → (Tree → Option A) → (List ℕ → Option A) → Mode → Tree → Option A
keyed_at own named m t = option_or (own t) (option_and_then named (key_text m t))

abbrev pub keyed_reads : {A : Type 0} → (Tree → Option A) → (List ℕ → Option A) → Mode → Tree → Result A DeError
keyed_reads own named m = takes (keyed_at own named m)
