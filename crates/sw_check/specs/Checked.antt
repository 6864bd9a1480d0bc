-- The children of an expression that are checked, each in its mode.
use Rattle.std.specs.Prelude.{ℕ}
use Rattle.sw_tree.specs.declared.mode.Mode.{Mode}
use Rattle.sw_tree.specs.declared.mode.WireKind.TheVariants.{Json}
use Rattle.sw_tree.specs.Mode.{plain, at_value, at_key, marked}
use Rattle.sw_check.specs.Form.{Form, Forms, leaf, vec, map, map_set, pick_first, one_or_many, one_or_many_set, option, set, key_map, pairs, tuple, fields, tagged, separated, empty_none, skip, map_skip, default, default_null, by_wire, conv, json_text, no_forms, form}
use Rattle.sw_check.specs.Wire.{on_wire}

-- none, one with its number, the first and the second, or all in one mode
pub data Checked : Type 0 where
  none : Checked
  one : ℕ → Form → Mode → Checked
  two : Form → Mode → Form → Mode → Checked
  each : Forms → Mode → Checked

abbrev pub checked : Form → Mode → Checked
checked (leaf f) m = none
checked (vec p) m = one 0 p (at_value m)
checked (map k v) m = two k (at_key m) v (at_value m)
checked (map_set k v) m = two k (at_key m) v (at_value m)
checked (pick_first p no_forms) m = one 0 p m
checked (pick_first p (form q qs)) m = one 0 p (marked m)
checked (one_or_many p) m = one 0 p (marked (at_value m))
checked (one_or_many_set p) m = one 0 p (marked (at_value m))
checked (option p) m = one 0 p m
checked (set p) m = one 0 p (at_value m)
checked (key_map k v) m = two k (at_key m) v (at_value m)
checked (pairs k v) m = two k (at_value m) v (at_value m)
checked (tuple ps) m = each ps (at_value m)
checked (fields ps listed g) m = each ps (at_value m)
checked (tagged ps unit) m = each ps (at_value m)
checked (separated c s) m = none
checked (empty_none c) m = none
checked (skip p) m = one 0 p (marked (at_value m))
checked (map_skip k v) m = two k (marked (at_key m)) v (marked (at_value m))
checked (default p) m = one 0 p (marked m)
checked (default_null p) m = one 0 p m
checked (by_wire h c) m = on_wire m.wire (one 0 h m) (one 1 c m)
checked (conv f returns) m = none
checked (json_text p) m = one 0 p (plain Json)
