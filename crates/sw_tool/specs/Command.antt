-- The commands, as words of bytes.
use Rattle.std.specs.Prelude.{ℕ, List, [], ◌∷◌, Option, Some, None, option_map, codes, if◌then◌else◌}
use Rattle.std.specs.Str.{bytes_eq}
use Rattle.sw_tool.specs.declared.command.Profile.{Profile}
use Rattle.sw_tool.specs.declared.command.Profile.TheVariants.{Ids, Any, Table, Flex, Names, Lists, Keys, Wrap, Settings}
use Rattle.sw_tool.specs.declared.command.Command.{Command}
use Rattle.sw_tool.specs.declared.command.Command.TheVariants.{Recode, Check, Schema}

-- the first of these names that the word is
abbrev first_named : List ℕ → List (List ℕ × Profile) → Option Profile
first_named word [] = None
first_named word (n ∷ ns) = if bytes_eq word n.0 then Some n.1 else first_named word ns

abbrev pub profile_named : List ℕ → Option Profile
profile_named word =
    first_named word
    ((codes "ids", Ids) ∷ (codes "any", Any) ∷ (codes "table", Table) ∷ (codes "flex", Flex) ∷ (codes "names", Names) ∷ (codes "lists", Lists) ∷ (codes "keys", Keys) ∷ (codes "wrap", Wrap) ∷
    (codes "settings", Settings) ∷ [])

-- the command that a verb and its argument are
abbrev pub command_of_two : List ℕ → List ℕ → Option Command
command_of_two verb argument =
    if bytes_eq verb (codes "recode") then option_map Recode (profile_named argument) else
    (if bytes_eq verb (codes "check") then option_map Check (profile_named argument) else
    (if bytes_eq verb (codes "schema") then option_map Schema (profile_named argument) else None))

abbrev pub command_in : List (List ℕ) → Option Command
command_in [] = None
command_in (verb ∷ []) = None
command_in (verb ∷ argument ∷ []) = command_of_two verb argument
command_in (verb ∷ argument ∷ more ∷ words) = None
