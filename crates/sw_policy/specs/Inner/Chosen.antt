-- What trying options in order answers, and what it logs.
use Rattle.std.specs.Prelude.{List, [], ◌∷◌, Option, Some, None, Result, Ok, Err}
use Rattle.sw_tree.specs.Answered.{Answered, AnsweredFreely}
use Rattle.sw_tree.specs.Logged.{Logged}
use Rattle.sw_tree.specs.Meaning.{Meaning}
use Rattle.sw_tree.specs.declared.fail.DeKind.{DeKind}
use Rattle.sw_tree.specs.declared.fail.Refusal.{Refusal}
use Rattle.sw_policy.specs.PickFirst.{four}
use Rattle.sw_policy.specs.declared.options.NoOption.{NoOption}
use Rattle.sw_policy.specs.declared.options.NoOption.TheVariants.{Refused, Memory}

-- the kinds of the refusals in their four places
abbrev pub in_four : Result Meaning (List DeKind) → Result Meaning (List (Option DeKind))
in_four (Ok v) = Ok v
in_four (Err ks) = Err (four ks)

-- an earlier refusal's kind before the later ones
abbrev pub before : DeKind → List (Option DeKind) → List (Option DeKind)
before k (a ∷ b ∷ c ∷ os) = Some k ∷ a ∷ b ∷ c ∷ []
before k _ = []

-- the cause that an error tells
abbrev pub option_cause : NoOption → Option (List (Option DeKind))
option_cause (Refused ks) = Some ks
option_cause Memory = None

-- the first value exactly where there is one, the refusals exactly where there is none, or want of memory
abbrev pub IsChosen : {T : Type 0} → (T → Meaning) → Result T NoOption → Result Meaning (List DeKind) → Type 0
IsChosen f result r = Answered f option_cause result (in_four r)

-- the log has gained those refusals, of which want of memory may leave some out at the end
abbrev pub AreTried : {T : Type 0} → Result T NoOption → List Refusal → List Refusal → List Refusal → Type 0
AreTried = Logged option_cause

-- no want of memory
abbrev pub ChoosesFreely : {T : Type 0} → Result T NoOption → Type 0
ChoosesFreely = AnsweredFreely option_cause
