-- The mode in which options are read and written.
use Rattle.std.specs.Prelude.{List, [], ◌∷◌}
use Rattle.sw_tree.specs.declared.mode.Mode.{Mode}
use Rattle.sw_tree.specs.Mode.{marked}
use Rattle.sw_check.specs.Form.{Form}

-- buffered where there are several
abbrev pub mode_of : List Form → Mode → Mode
mode_of (p ∷ q ∷ ps) m = marked m
mode_of (p ∷ []) m = m
mode_of [] m = m
