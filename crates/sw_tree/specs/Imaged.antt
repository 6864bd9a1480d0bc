-- What asking for an image answers.
use Rattle.std.specs.Prelude.{Option, Result}
use Rattle.sw_tree.specs.Answered.{AnsweredOption, print_cause}
use Rattle.sw_tree.specs.Tree.{Tree}
use Rattle.sw_tree.specs.declared.fail.PrintError.{PrintError}

-- what means the image exactly where there is one, Key exactly where there is none, or want of memory
abbrev pub MeansImage : {A B : Type 0} → (A → B) → Result A PrintError → Option B → Type 0
MeansImage f = AnsweredOption f print_cause

abbrev pub IsImaged : Result Tree PrintError → Option Tree → Type 0
IsImaged = MeansImage (λ t. t)
