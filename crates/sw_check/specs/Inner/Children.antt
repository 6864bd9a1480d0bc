-- What a handful of children shows.
use Rattle.std.specs.Prelude.{◌≤◌, length}
use Rattle.sw_check.specs.Form.{Forms, no_forms, forms}
use Rattle.sw_check.specs.Checked.{Checked, none, one, two, each}
use Rattle.sw_check.specs.declared.children.Children.{Children}
use Rattle.sw_check.specs.declared.children.Children.TheVariants as children

abbrev pub shown : Children → Checked
shown children.None = none
shown (children.One n p m) = one n p.now m
shown (children.First p ps m) = one 0 p.now m
shown (children.Two p m q n) = two p.now m q.now n
shown (children.Each ps m) = each (forms ps.now) m

-- the options behind the first
abbrev pub behind : Children → Forms
behind children.None = no_forms
behind (children.One n p m) = no_forms
behind (children.First p ps m) = forms ps.now
behind (children.Two p m q n) = no_forms
behind (children.Each ps m) = no_forms

-- so few that their numbers fit 16 bits
abbrev pub IsFew : Children → Type 0
IsFew children.None = Unit {0}
IsFew (children.One n p m) = Unit {0}
IsFew (children.First p ps m) = length ps.now ≤ 65535
IsFew (children.Two p m q n) = Unit {0}
IsFew (children.Each ps m) = length ps.now ≤ 65535
