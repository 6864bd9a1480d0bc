-- What an expression is: a form, with its parts.
use Rattle.std.specs.Prelude.{ℕ, suc, max, Bool, List, [], ◌∷◌}
use Rattle.sw_check.specs.declared.facts.Facts.{Facts}
use Rattle.sw_check.specs.declared.class.TextClass.{TextClass}
use Rattle.sw_check.specs.declared.grade.Grade.{Grade}

-- a form, and a row of forms; the options of `pick_first` are a first one and the others
mutual
  pub data Form : Type 0 where
    leaf : Facts → Form
    vec : Form → Form
    map : Form → Form → Form
    map_set : Form → Form → Form
    pick_first : Form → Forms → Form
    one_or_many : Form → Form
    one_or_many_set : Form → Form
    option : Form → Form
    set : Form → Form
    key_map : Form → Form → Form
    pairs : Form → Form → Form
    tuple : Forms → Form
    fields : Forms → Bool → Grade → Form
    tagged : Forms → Bool → Form
    separated : TextClass → TextClass → Form
    empty_none : TextClass → Form
    skip : Form → Form
    map_skip : Form → Form → Form
    default : Form → Form
    default_null : Form → Form
    by_wire : Form → Form → Form
    conv : Facts → Bool → Form
    json_text : Form → Form

  pub data Forms : Type 0 where
    no_forms : Forms
    form : Form → Forms → Forms

abbrev pub forms : List Form → Forms
forms [] = no_forms
forms (e ∷ es) = form e (forms es)

-- the choice among these options, of which there is at least one
abbrev pub choice : List Form → Form
choice [] = tuple no_forms
choice (e ∷ es) = pick_first e (forms es)

-- how many levels an expression has below itself
abbrev mutual
  pub levels : Form → ℕ
  levels (leaf f) = 0
  levels (vec p) = suc (levels p)
  levels (map k v) = suc (max (levels k) (levels v))
  levels (map_set k v) = suc (max (levels k) (levels v))
  levels (pick_first p ps) = suc (max (levels p) (most_levels ps))
  levels (one_or_many p) = suc (levels p)
  levels (one_or_many_set p) = suc (levels p)
  levels (option p) = suc (levels p)
  levels (set p) = suc (levels p)
  levels (key_map k v) = suc (max (levels k) (levels v))
  levels (pairs k v) = suc (max (levels k) (levels v))
  levels (tuple ps) = suc (most_levels ps)
  levels (fields ps listed g) = suc (most_levels ps)
  levels (tagged ps unit) = suc (most_levels ps)
  levels (separated c s) = 0
  levels (empty_none c) = 0
  levels (skip p) = suc (levels p)
  levels (map_skip k v) = suc (max (levels k) (levels v))
  levels (default p) = suc (levels p)
  levels (default_null p) = suc (levels p)
  levels (by_wire h c) = suc (max (levels h) (levels c))
  levels (conv f returns) = 0
  levels (json_text p) = suc (levels p)

  pub most_levels : Forms → ℕ
  most_levels no_forms = 0
  most_levels (form p ps) = max (levels p) (most_levels ps)
