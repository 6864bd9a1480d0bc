-- The refusal of the first node that is a byte string, or a key that is no text, at its place.
use Rattle.std.specs.Prelude.{Option, option_map}
use Rattle.sw_tree.specs.Seen.{Seen, place_at}
use Rattle.sw_tree.specs.declared.fail.DeError.TheVariants as fail
use Rattle.sw_tree.specs.declared.fail.Refusal.{Refusal}
use Rattle.sw_tree.specs.Foreign.{Foreign, foreign}

abbrev pub refusal_of : Seen → Foreign → Refusal
refusal_of s f = record { error = fail.InvalidType f.kind; place = place_at s f.number }

abbrev pub foreign_seen : Seen → Option Refusal
foreign_seen s = option_map (refusal_of s) (foreign s.tree)
