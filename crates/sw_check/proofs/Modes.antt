-- The mode of options, by how many there are.
use Rattle.std.proofs.Common.{◌≡◌, ◌<◌, ◌≤◌, List, [], ◌∷◌, length, refl, arith}
use Rattle.sw_tree.specs.declared.mode.Mode.{Mode}
use Rattle.sw_tree.specs.Mode.{marked}
use Rattle.sw_check.specs.Form.{Form}
use Rattle.sw_check.specs.Inner.Options.{mode_of}

pub several : (ps : List Form) (m : Mode) → 1 < length ps → mode_of ps m ≡ marked m
several [] m h = absurd (omega arith)
several (p ∷ []) m h = absurd (omega arith)
several (p ∷ q ∷ ps) m h = refl

pub single : (ps : List Form) (m : Mode) → length ps ≤ 1 → mode_of ps m ≡ m
single [] m h = refl
single (p ∷ []) m h = refl
single (p ∷ q ∷ ps) m h = absurd (omega arith)

pub ruleset modes = (several, single)
