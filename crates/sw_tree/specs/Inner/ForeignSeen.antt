-- The same of each item and entry that is left.
use Rattle.std.specs.Prelude.{Option, option_map, List, [], ◌∷◌, None}
use Rattle.std.specs.Option.{option_or}
use Rattle.sw_tree.specs.Seen.{Seen}
use Rattle.sw_tree.specs.declared.fail.Refusal.{Refusal}
use Rattle.sw_tree.specs.Foreign.{foreign_key}
use Rattle.sw_tree.specs.ForeignSeen.{refusal_of, foreign_seen}

abbrev pub foreign_key_seen : Seen → Option Refusal
foreign_key_seen s = option_map (refusal_of s) (foreign_key s.tree)

-- the same of nodes one after another
abbrev pub foreign_each : List Seen → Option Refusal
foreign_each [] = None
foreign_each (s ∷ ss) = option_or (foreign_seen s) (foreign_each ss)

abbrev pub foreign_each_entry : List (Seen × Seen) → Option Refusal
foreign_each_entry [] = None
foreign_each_entry (e ∷ es) = option_or (foreign_key_seen e.0) (option_or (foreign_seen e.1) (foreign_each_entry es))
