-- What a function answers that appends a text to bytes.
use Rattle.std.specs.Prelude.{ℕ, List, ◌++◌, Option, option_map, Result, Some, None}
use Rattle.sw_tree.specs.Answered.{AnsweredOption, print_cause}
use Rattle.sw_tree.specs.declared.fail.PrintError.{PrintError}

-- the text appended exactly where there is one, Key exactly where there is none, or want of memory
abbrev pub IsPushed : Result (Unit {0}) PrintError → List ℕ → List ℕ → Option (List ℕ) → Type 0
IsPushed result before after r = AnsweredOption (λ _. after) print_cause result (option_map (λ s. before ++ s) r)

-- one text and then another, where there are both
abbrev pub joined : Option (List ℕ) → Option (List ℕ) → Option (List ℕ)
joined (Some s) (Some t) = Some (s ++ t)
joined (Some s) None = None
joined None t = None
