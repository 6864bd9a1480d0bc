-- The rules of the check, and the first that an expression fails at itself.
use Rattle.std.specs.Prelude.{Bool, true, false, not, ◌||◌, ◌&&◌, List, [], ◌∷◌, Option, find}
use Rattle.sw_tree.specs.declared.mode.Mode.{Mode}
use Rattle.sw_tree.specs.declared.mode.Kind.{Kind}
use Rattle.sw_tree.specs.declared.mode.Kind.TheVariants as kind
use Rattle.sw_tree.specs.declared.mode.WireKind.{WireKind}
use Rattle.sw_tree.specs.declared.mode.WireKind.TheVariants.{Json, Compact}
use Rattle.sw_tree.specs.declared.mode.Place.{Place}
use Rattle.sw_tree.specs.declared.mode.Place.TheVariants.{Value, Key}
use Rattle.sw_tree.specs.Mode.{at_value, at_key, marked}
use Rattle.sw_check.specs.declared.rule.Rule.{Rule}
use Rattle.sw_check.specs.declared.rule.Rule.TheVariants.{S1, S2, S3, S4, S5, S6, S7, S8}
use Rattle.sw_check.specs.TextClass.{shares_byte}
use Rattle.sw_check.specs.Facts.{claims_at}
use Rattle.sw_check.specs.Form.{Form, leaf, map_set, one_or_many, one_or_many_set, option, set, key_map, pairs, separated, empty_none, map_skip, default_null, conv}
use Rattle.sw_check.specs.Kinds.{kinds_written, kinds_read}
use Rattle.sw_check.specs.Grade.{grade, is_exact}

-- a key of JSON
abbrev pub is_json_key : WireKind → Place → Bool
is_json_key Json Key = true
is_json_key Json Value = false
is_json_key Compact p = false

-- no kind but text, number and truth value
abbrev pub fit_keys : (Kind → Bool) → Bool
fit_keys written = not (written kind.Null || written kind.Bytes || written kind.List || written kind.Map)

-- whether the rule holds at the expression itself; it holds wherever it doesn't speak of the form
abbrev pub holds : Rule → Form → Mode → Bool
-- a leaf or a conversion claims the mode
holds S1 (leaf f) m = claims_at f.claims m
holds S1 (conv f returns) m = claims_at f.claims m
holds S1 _ m = true
-- as a key of JSON it writes no kind but text, number and truth value
holds S2 e m = not (is_json_key m.wire m.place) || fit_keys (kinds_written e m)
-- the part, buffered, reads no list
holds S3 (one_or_many p) m = not (kinds_read p (marked (at_value m)) kind.List)
holds S3 (one_or_many_set p) m = not (kinds_read p (marked (at_value m)) kind.List)
holds S3 _ m = true
-- the part writes no null
holds S4 (option p) m = not (kinds_written p m kind.Null)
holds S4 (default_null p) m = not (kinds_written p m kind.Null)
holds S4 _ m = true
-- what tells items or entries apart is exact: a set's items, a map's keys, a set of pairs' keys and values
holds S5 (set p) m = is_exact (grade p (at_value m))
holds S5 (one_or_many_set p) m = is_exact (grade p (marked (at_value m)))
holds S5 (key_map k v) m = is_exact (grade k (at_key m))
holds S5 (pairs k v) m = is_exact (grade k (at_value m))
holds S5 (map_skip k v) m = is_exact (grade k (marked (at_key m)))
holds S5 (map_set k v) m = is_exact (grade k (at_key m)) && is_exact (grade v (at_value m))
holds S5 _ m = true
-- the texts that are joined are never empty, and share no byte with the separator
holds S6 (separated c s) m = c.never_empty && not (shares_byte c s)
holds S6 _ m = true
-- a text that stands beside the empty one is never empty
holds S7 (empty_none c) m = c.never_empty
holds S7 _ m = true
-- a conversion gives back what it was given
holds S8 (conv f returns) m = returns
holds S8 _ m = true

-- the order in which the rules are tried
abbrev pub order : List Rule
order = S2 ∷ S1 ∷ S3 ∷ S4 ∷ S5 ∷ S6 ∷ S7 ∷ S8 ∷ []

-- the first rule in that order which doesn't hold at the expression itself
abbrev pub fault : Form → Mode → Option Rule
fault e m = find (λ r. not (holds r e m)) order
