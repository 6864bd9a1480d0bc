-- The grade of an expression in a mode.
use Rattle.std.specs.Prelude.{Bool, true, false}
use Rattle.sw_tree.specs.declared.mode.Mode.{Mode}
use Rattle.sw_tree.specs.declared.mode.WireKind.TheVariants.{Json}
use Rattle.sw_tree.specs.Mode.{plain, at_value, at_key, marked}
use Rattle.sw_check.specs.declared.grade.Grade.{Grade}
use Rattle.sw_check.specs.declared.grade.Grade.TheVariants.{Exact, Rounded}
use Rattle.sw_check.specs.Form.{Form, Forms, leaf, vec, map, map_set, pick_first, one_or_many, one_or_many_set, option, set, key_map, pairs, tuple, fields, tagged, separated, empty_none, skip, map_skip, default, default_null, by_wire, conv, json_text, no_forms, form}
use Rattle.sw_check.specs.Wire.{on_wire}

-- `Rounded` if one of the two is
abbrev pub worst : Grade → Grade → Grade
worst Exact g = g
worst Rounded g = Rounded

abbrev pub is_exact : Grade → Bool
is_exact Exact = true
is_exact Rounded = false

-- each part is graded in the mode in which it is checked
abbrev mutual
  pub grade : Form → Mode → Grade
  grade (leaf f) m = f.grade
  grade (vec p) m = grade p (at_value m)
  grade (map k v) m = worst (grade k (at_key m)) (grade v (at_value m))
  grade (map_set k v) m = Exact
  grade (pick_first p no_forms) m = grade p m
  grade (pick_first p (form q qs)) m = grade p (marked m)
  grade (one_or_many p) m = grade p (marked (at_value m))
  grade (one_or_many_set p) m = Exact
  grade (option p) m = grade p m
  grade (set p) m = Exact
  grade (key_map k v) m = grade v (at_value m)
  grade (pairs k v) m = grade v (at_value m)
  grade (tuple ps) m = worst_of ps (at_value m)
  grade (fields ps listed own) m = worst own (worst_of ps (at_value m))
  grade (tagged ps unit) m = worst_of ps (at_value m)
  grade (separated c s) m = Exact
  grade (empty_none c) m = Exact
  grade (skip p) m = grade p (marked (at_value m))
  grade (map_skip k v) m = grade v (marked (at_value m))
  grade (default p) m = grade p (marked m)
  grade (default_null p) m = grade p m
  grade (by_wire h c) m = on_wire m.wire (grade h m) (grade c m)
  grade (conv f returns) m = f.grade
  grade (json_text p) m = grade p (plain Json)

  -- `Rounded` if one of the parts is
  pub worst_of : Forms → Mode → Grade
  worst_of no_forms m = Exact
  worst_of (form p ps) m = worst (grade p m) (worst_of ps m)
