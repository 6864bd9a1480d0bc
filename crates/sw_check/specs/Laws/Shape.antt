-- Each part of an expression has fewer levels than the expression.
use Rattle.std.specs.Prelude.{◌+◌, ◌≤◌, max, List, [], ◌∷◌}
use Rattle.std.proofs.Common.{arith}
use denote.Param.Weighed.{most}
use Rattle.sw_check.specs.Form.{Form, forms, choice, levels, most_levels}
use Rattle.sw_check.specs.Inner.Shape.{shape_form}
use Rattle.sw_check.specs.declared.expr.Shape.{Shape}
use Rattle.sw_check.specs.declared.expr.Shape.TheVariants as shape
use Rattle.sw_check.specs.declared.expr.Expr.TheDeep.{deep-Shape}

most-forms : (ps : List Form) → most (λ p. levels p + 1) ps ≤ most_levels (forms ps) + 1
most-forms [] = omega arith
most-forms (p ∷ ps) = omega (arith, most-forms ps)

most-choice : (ps : List Form) → most (λ p. levels p + 1) ps ≤ levels (choice ps)
most-choice [] = omega arith
most-choice (p ∷ ps) = omega (arith, most-forms ps)

pub deep_le-levels : (s : Shape) → max (deep-Shape s) 0 ≤ levels (shape_form s)
deep_le-levels (shape.Leaf f) = omega arith
deep_le-levels (shape.Vec p) = omega arith
deep_le-levels (shape.Map k v) = omega arith
deep_le-levels (shape.MapSet k v) = omega arith
deep_le-levels (shape.PickFirst v) = omega (arith, most-choice v.items)
deep_le-levels (shape.OneOrMany p) = omega arith
deep_le-levels (shape.OneOrManySet p) = omega arith
deep_le-levels (shape.Option p) = omega arith
deep_le-levels (shape.Set p) = omega arith
deep_le-levels (shape.KeyMap k v) = omega arith
deep_le-levels (shape.Pairs k v) = omega arith
deep_le-levels (shape.Tuple v) = omega (arith, most-forms v.items)
deep_le-levels (shape.Fields v listed g) = omega (arith, most-forms v.items)
deep_le-levels (shape.Tagged v unit) = omega (arith, most-forms v.items)
deep_le-levels (shape.Separated c s) = omega arith
deep_le-levels (shape.EmptyNone c) = omega arith
deep_le-levels (shape.Skip p) = omega arith
deep_le-levels (shape.MapSkip k v) = omega arith
deep_le-levels (shape.Default p) = omega arith
deep_le-levels (shape.DefaultNull p) = omega arith
deep_le-levels (shape.ByWire h c) = omega arith
deep_le-levels (shape.Conv f returns) = omega arith
deep_le-levels (shape.JsonText p) = omega arith
