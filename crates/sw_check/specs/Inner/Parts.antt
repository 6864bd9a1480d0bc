-- What a pass keeps of an expression's parts: the kinds of the first, the kinds that options behind it read, and the grades.
use Rattle.std.specs.Prelude.{Bool, false}
use Rattle.sw_tree.specs.declared.mode.Kind.{Kind}
use Rattle.sw_check.specs.declared.grade.Grade.{Grade}
use Rattle.sw_check.specs.declared.grade.Grade.TheVariants.{Exact}
use Rattle.sw_check.specs.Form.{Form, Forms, pick_first, no_forms}
use Rattle.sw_check.specs.Kinds.{kinds_written, kinds_read, any_reads}
use Rattle.sw_check.specs.Grade.{grade, worst_of}
use Rattle.sw_check.specs.Checked.{Checked, none, one, two, each}

-- the options behind the first
abbrev pub others : Form → Forms
others (pick_first p ps) = ps
others _ = no_forms

-- whether the first child, where one is checked that isn't of a row, may write that kind
abbrev pub first_written : Checked → Kind → Bool
first_written none k = false
first_written (one n p m) k = kinds_written p m k
first_written (two p m q n) k = kinds_written p m k
first_written (each ps m) k = false

-- whether it may read that kind
abbrev pub first_read : Checked → Kind → Bool
first_read none k = false
first_read (one n p m) k = kinds_read p m k
first_read (two p m q n) k = kinds_read p m k
first_read (each ps m) k = false

-- whether one of these options may, in the mode of the first
abbrev pub others_read : Checked → Forms → Kind → Bool
others_read none ps k = false
others_read (one n p m) ps k = any_reads ps m k
others_read (two p m q n) ps k = false
others_read (each qs m) ps k = false

-- the grade of the first child, of a row the worst
abbrev pub first_grade : Checked → Grade
first_grade none = Exact
first_grade (one n p m) = grade p m
first_grade (two p m q n) = grade p m
first_grade (each ps m) = worst_of ps m

-- the grade of the second, where there are two
abbrev pub second_grade : Checked → Grade
second_grade none = Exact
second_grade (one n p m) = Exact
second_grade (two p m q n) = grade q n
second_grade (each ps m) = Exact
