-- The kinds of tree that an expression writes in a mode, and those that it reads.
use Rattle.std.specs.Prelude.{Bool, true, false, ◌||◌, ◌&&◌}
use Rattle.sw_tree.specs.declared.mode.Mode.{Mode}
use Rattle.sw_tree.specs.declared.mode.Kind.{Kind}
use Rattle.sw_tree.specs.declared.mode.Kind.TheVariants as kind
use Rattle.sw_tree.specs.Mode.{at_value, marked}
use Rattle.sw_tree.specs.Kinds.{has, is_kind}
use Rattle.sw_check.specs.Facts.{read_at}
use Rattle.sw_check.specs.Form.{Form, Forms, leaf, vec, map, map_set, pick_first, one_or_many, one_or_many_set, option, set, key_map, pairs, tuple, fields, tagged, separated, empty_none, skip, map_skip, default, default_null, by_wire, conv, json_text, no_forms, form}
use Rattle.sw_check.specs.Wire.{on_wire}

-- whether a tree of that kind may be written
abbrev pub kinds_written : Form → Mode → Kind → Bool
kinds_written (leaf f) m k = has f.written k
kinds_written (vec p) m k = is_kind kind.List k
kinds_written (map a b) m k = is_kind kind.Map k
kinds_written (map_set a b) m k = is_kind kind.Map k
kinds_written (pick_first p no_forms) m k = kinds_written p m k
kinds_written (pick_first p (form q qs)) m k = kinds_written p (marked m) k
kinds_written (one_or_many p) m k = kinds_written p (marked (at_value m)) k || is_kind kind.List k
kinds_written (one_or_many_set p) m k = kinds_written p (marked (at_value m)) k || is_kind kind.List k
kinds_written (option p) m k = kinds_written p m k || is_kind kind.Null k
kinds_written (set p) m k = is_kind kind.List k
kinds_written (key_map a b) m k = is_kind kind.Map k
kinds_written (pairs a b) m k = is_kind kind.List k
kinds_written (tuple ps) m k = is_kind kind.List k
kinds_written (fields ps listed g) m k = is_kind kind.Map k
kinds_written (tagged ps unit) m k = is_kind kind.Map k || (unit && is_kind kind.Text k)
kinds_written (separated c s) m k = is_kind kind.Text k
kinds_written (empty_none c) m k = is_kind kind.Text k
kinds_written (skip p) m k = is_kind kind.List k
kinds_written (map_skip a b) m k = is_kind kind.Map k
kinds_written (default p) m k = kinds_written p (marked m) k
kinds_written (default_null p) m k = kinds_written p m k
kinds_written (by_wire h c) m k = on_wire m.wire (kinds_written h m k) (kinds_written c m k)
kinds_written (conv f returns) m k = has f.written k
kinds_written (json_text p) m k = is_kind kind.Text k

-- whether a tree of that kind may be read: of every other kind each is refused
abbrev mutual
  pub kinds_read : Form → Mode → Kind → Bool
  kinds_read (leaf f) m k = has (read_at f m) k
  kinds_read (vec p) m k = is_kind kind.List k
  kinds_read (map a b) m k = is_kind kind.Map k
  kinds_read (map_set a b) m k = is_kind kind.Map k
  kinds_read (pick_first p no_forms) m k = kinds_read p m k
  kinds_read (pick_first p (form q qs)) m k = kinds_read p (marked m) k || (kinds_read q (marked m) k || any_reads qs (marked m) k)
  kinds_read (one_or_many p) m k = kinds_read p (marked (at_value m)) k || is_kind kind.List k
  kinds_read (one_or_many_set p) m k = kinds_read p (marked (at_value m)) k || is_kind kind.List k
  kinds_read (option p) m k = kinds_read p m k || is_kind kind.Null k
  kinds_read (set p) m k = is_kind kind.List k
  kinds_read (key_map a b) m k = is_kind kind.Map k
  kinds_read (pairs a b) m k = is_kind kind.List k
  kinds_read (tuple ps) m k = is_kind kind.List k
  kinds_read (fields ps listed g) m k = is_kind kind.Map k || (listed && is_kind kind.List k)
  kinds_read (tagged ps unit) m k = is_kind kind.Map k || (unit && is_kind kind.Text k)
  kinds_read (separated c s) m k = is_kind kind.Text k
  kinds_read (empty_none c) m k = is_kind kind.Null k || is_kind kind.Text k
  kinds_read (skip p) m k = is_kind kind.List k
  kinds_read (map_skip a b) m k = is_kind kind.Map k
  kinds_read (default p) m k = true
  kinds_read (default_null p) m k = kinds_read p m k || is_kind kind.Null k
  kinds_read (by_wire h c) m k = on_wire m.wire (kinds_read h m k) (kinds_read c m k)
  kinds_read (conv f returns) m k = has (read_at f m) k
  kinds_read (json_text p) m k = is_kind kind.Text k

  -- whether one of the options may read it
  pub any_reads : Forms → Mode → Kind → Bool
  any_reads no_forms m k = false
  any_reads (form p ps) m k = kinds_read p m k || any_reads ps m k
