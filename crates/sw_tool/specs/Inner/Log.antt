-- How the text of a log grows, entry by entry.
use Rattle.std.specs.Prelude.{ℕ, ◌≡◌, List, ◌++◌, flat_map}
use Rattle.sw_tree.specs.declared.fail.Refusal.{Refusal}
use Rattle.sw_tool.specs.Log.{Entry, entry_text, AreEntries}

-- the text is that of entries of these refusals, behind a heading
pub record IsTold (IsPath : ℕ → List ℕ → Type 0) (front : List ℕ) (refusals : List Refusal) (text : List ℕ) : Type 0 where
  pub entries : List Entry
  pub are : AreEntries IsPath refusals entries
  pub printed : text ≡ front ++ flat_map entry_text entries

-- the text has gained the entry of a refusal
pub record GainsEntry (IsPath : ℕ → List ℕ → Type 0) (refusal : Refusal) (old new : List ℕ) : Type 0 where
  pub path : List ℕ
  pub leads : IsPath refusal.place path
  pub gained : new ≡ old ++ entry_text (record { refusal = refusal; path = path })
