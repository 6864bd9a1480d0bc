-- What a leaf's facts say of a mode.
use Rattle.std.specs.Prelude.{Bool, true, false}
use Rattle.sw_tree.specs.declared.mode.Mode.{Mode}
use Rattle.sw_tree.specs.declared.mode.WireKind.{WireKind}
use Rattle.sw_tree.specs.declared.mode.WireKind.TheVariants.{Json, Compact}
use Rattle.sw_tree.specs.declared.mode.Place.{Place}
use Rattle.sw_tree.specs.declared.mode.Place.TheVariants.{Value, Key}
use Rattle.sw_tree.specs.declared.kinds.Kinds.{Kinds}
use Rattle.sw_check.specs.declared.facts.Claims.{Claims}
use Rattle.sw_check.specs.declared.facts.Facts.{Facts}

-- the claim on that wire, in that place, buffered or not
abbrev claim : Claims → WireKind → Place → Bool → Bool
claim c Json Value false = c.value
claim c Json Value true = c.buffered_value
claim c Json Key false = c.key
claim c Json Key true = c.buffered_key
claim c Compact p b = c.compact

-- whether the mode is claimed
abbrev pub claims_at : Claims → Mode → Bool
claims_at c m = claim c m.wire m.place m.buffered

-- what is read on that wire, in that place, buffered or not
abbrev reads : Facts → WireKind → Place → Bool → Kinds
reads f Json Value b = f.read_value
reads f Json Key false = f.read_key
reads f Json Key true = f.read_buffered_key
reads f Compact p b = f.read_value

-- the kinds that are read in the mode
abbrev pub read_at : Facts → Mode → Kinds
read_at f m = reads f m.wire m.place m.buffered
