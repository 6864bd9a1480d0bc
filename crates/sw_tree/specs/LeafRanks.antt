-- The orders of (), truth values, numbers and texts.
use Rattle.std.specs.Prelude.{Bool, false, ℤ, pos, ℕ, List, []}
use Rattle.std.specs.Ordering.{bool_cmp, int_cmp, nat_cmp}
use Rattle.std.specs.declared.cmp.Ordering.TheVariants.{Equal}
use Rattle.std.specs.Cmp.Lexicographic.{slice_cmp}
use Rattle.sw_tree.specs.Meaning.{Meaning, truth, number, text}
use Rattle.sw_tree.specs.Ranks.{Order}

-- all are equal
abbrev pub level_order : Order
level_order x y = Equal

abbrev pub truth_of : Meaning → Bool
truth_of (truth b) = b
truth_of _ = false

abbrev pub truth_order : Order
truth_order x y = bool_cmp (truth_of x) (truth_of y)

abbrev pub number_of : Meaning → ℤ
number_of (number n) = n
number_of _ = pos 0

abbrev pub number_order : Order
number_order x y = int_cmp (number_of x) (number_of y)

abbrev pub text_of : Meaning → List ℕ
text_of (text s) = s
text_of _ = []

-- byte by byte
abbrev pub text_order : Order
text_order x y = slice_cmp nat_cmp (text_of x) (text_of y)
