-- What a pass finds in a subexpression, where its path grows from its end.
use Rattle.std.specs.Prelude.{◌≡◌, Bool, true, false, Option, Some, None, reverse}
use Rattle.sw_check.specs.declared.blame.Blame.{Blame}
use Rattle.sw_check.specs.declared.found.Found.{Found}
use Rattle.sw_check.specs.declared.found.Found.TheVariants as found
use Rattle.sw_check.specs.Answers.{HasSteps}

abbrev pub is_nothing : Found → Bool
is_nothing found.Nothing = true
is_nothing (found.Fault f) = false
is_nothing found.Memory = false

-- what is found so far, where the first blame of what is left and that of the whole are these
abbrev pub IsSoFar : Found → Option Blame → Option Blame → Type 0
IsSoFar found.Nothing left whole = whole ≡ left
IsSoFar (found.Fault f) left whole = whole ≡ Some (record { path = reverse f.steps.items; rule = f.rule })
IsSoFar found.Memory left whole = HasSteps whole

-- what was found before stays; where that is nothing, so much of the whole is found then
abbrev pub FindsSoFar : Found → Found → Option Blame → Option Blame → Type 0
FindsSoFar found.Nothing new left whole = IsSoFar new left whole
FindsSoFar (found.Fault f) new left whole = new ≡ found.Fault f
FindsSoFar found.Memory new left whole = new ≡ found.Memory

-- what was found before stays; where that is nothing, this blame is found, or want of memory where its path takes memory
abbrev pub FindsFirst : Found → Found → Option Blame → Type 0
FindsFirst old new whole = FindsSoFar old new None whole
