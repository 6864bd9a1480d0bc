-- The text of a log: how many refusals were passed over, and the kind and the path of each.
use Rattle.std.specs.Prelude.{ℕ, ◌≡◌, List, [], ◌∷◌, ◌++◌, length, map, flat_map, codes, decimal}
use Rattle.sw_tree.specs.Fail.{kind_of_error}
use Rattle.sw_tree.specs.Steps.{Each}
use Rattle.sw_tree.specs.declared.fail.Refusal.{Refusal}
use Rattle.sw_tool.specs.Names.{kind_name}
use Rattle.sw_tool.specs.Path.{IsPathTo}
use Rattle.sw_tool.specs.Output.{line}

-- a refusal that was passed over, and a path
pub record Entry : Type 0 where
  pub refusal : Refusal
  pub path : List ℕ

-- the kind's name and the path, behind a space
abbrev pub entry_text : Entry → List ℕ
entry_text e = codes " " ++ kind_name (kind_of_error e.refusal.error) ++ codes " at " ++ e.path

-- how many entries follow
abbrev pub heading : ℕ → List ℕ
heading count = decimal count ++ codes ":"

-- how many entries there are, and each of them; nothing where there are none
abbrev pub log_text : List Entry → List ℕ
log_text [] = []
log_text (e ∷ es) = heading (length (e ∷ es)) ++ flat_map entry_text (e ∷ es)

-- the entries are the log's refusals in order, each with a path that leads to its node
pub record AreEntries (IsPath : ℕ → List ℕ → Type 0) (log : List Refusal) (entries : List Entry) : Type 0 where
  pub refusals : map (λ (e : Entry). e.refusal) entries ≡ log
  pub paths : Each (λ (e : Entry). IsPath e.refusal.place e.path) entries

-- the text is that of the log's entries, by the paths in the tree that the bytes spell
pub record IsLogText (bytes : List ℕ) (log : List Refusal) (text : List ℕ) : Type 0 where
  pub entries : List Entry
  pub are : AreEntries (IsPathTo bytes) log entries
  pub printed : text ≡ log_text entries

-- the line of a log by its text: none where nothing was passed over
abbrev pub skipped_line : List ℕ → List ℕ
skipped_line [] = []
skipped_line (b ∷ bs) = line (codes "skipped " ∷ (b ∷ bs) ∷ [])
