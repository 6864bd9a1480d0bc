-- The form of one level, whose parts are already seen as forms, and how many parts of a row it has.
use Rattle.std.specs.Prelude.{ℕ, length}
use Rattle.sw_check.specs.Form.{Form, leaf, vec, map, map_set, one_or_many, one_or_many_set, option, set, key_map, pairs, tuple, fields, tagged, separated, empty_none, skip, map_skip, default, default_null, by_wire, conv, json_text, forms, choice}
use Rattle.sw_check.specs.declared.expr.Shape.{Shape}
use Rattle.sw_check.specs.declared.expr.Shape.TheVariants as shape

abbrev pub shape_form : Shape → Form
shape_form (shape.Leaf f) = leaf f
shape_form (shape.Vec p) = vec p.value
shape_form (shape.Map k v) = map k.value v.value
shape_form (shape.MapSet k v) = map_set k.value v.value
shape_form (shape.PickFirst v) = choice v.items
shape_form (shape.OneOrMany p) = one_or_many p.value
shape_form (shape.OneOrManySet p) = one_or_many_set p.value
shape_form (shape.Option p) = option p.value
shape_form (shape.Set p) = set p.value
shape_form (shape.KeyMap k v) = key_map k.value v.value
shape_form (shape.Pairs k v) = pairs k.value v.value
shape_form (shape.Tuple v) = tuple (forms v.items)
shape_form (shape.Fields v listed g) = fields (forms v.items) listed g
shape_form (shape.Tagged v unit) = tagged (forms v.items) unit
shape_form (shape.Separated c s) = separated c s
shape_form (shape.EmptyNone c) = empty_none c
shape_form (shape.Skip p) = skip p.value
shape_form (shape.MapSkip k v) = map_skip k.value v.value
shape_form (shape.Default p) = default p.value
shape_form (shape.DefaultNull p) = default_null p.value
shape_form (shape.ByWire h c) = by_wire h.value c.value
shape_form (shape.Conv f returns) = conv f returns
shape_form (shape.JsonText p) = json_text p.value

-- how many parts stand in a row
abbrev pub count : Shape → ℕ
count (shape.PickFirst v) = length v.items
count (shape.Tuple v) = length v.items
count (shape.Fields v listed g) = length v.items
count (shape.Tagged v unit) = length v.items
count _ = 0

-- how many there are at least
abbrev pub fewest : Shape → ℕ
fewest (shape.PickFirst v) = 1
fewest _ = 0
