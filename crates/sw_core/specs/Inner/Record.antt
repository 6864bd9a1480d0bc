-- A record's entries, read one after another at their places.
use Rattle.std.specs.Prelude.{ℕ, List, [], ◌∷◌, ◌++◌, Bool, Option, Some, None, Result, Ok, Err}
use Rattle.sw_tree.specs.Meaning.{Meaning}
use Rattle.sw_tree.specs.Placed.{placed_at}
use Rattle.sw_tree.specs.Seen.{Seen}
use Rattle.sw_tree.specs.Steps.{bind}
use Rattle.sw_tree.specs.Tree.{text_at, kind_of}
use Rattle.sw_tree.specs.declared.mode.Mode.{Mode}
use Rattle.sw_tree.specs.declared.fail.DeError.TheVariants as fail
use Rattle.sw_tree.specs.declared.fail.Refusal.{Refusal}
use Rattle.sw_core.specs.Fields.{Field, Slots, fields_reads, fields_logs, fields_make}

-- what the fields mean behind an entry, by the text of its key
abbrev pub named_reads : Bool → List Field → Mode → Slots → Option (List ℕ) → Seen × Seen → Result Slots Refusal
named_reads strict fs m os (Some s) e = fields_reads strict fs m os s e
named_reads strict fs m os None e = placed_at e.0 0 (Err (fail.InvalidType (kind_of e.0.tree)))

abbrev pub named_logs : List Field → Mode → Slots → Option (List ℕ) → Seen × Seen → List Refusal
named_logs fs m os (Some s) e = fields_logs fs m os s e
named_logs fs m os None e = []

abbrev pub entry_reads : Bool → List Field → Mode → Slots → Seen × Seen → Result Slots Refusal
entry_reads strict fs m os e = named_reads strict fs m os (text_at e.0.tree) e

abbrev pub entry_logs : List Field → Mode → Slots → Seen × Seen → List Refusal
entry_logs fs m os e = named_logs fs m os (text_at e.0.tree) e

-- behind all of them
abbrev pub all_reads : Bool → List Field → Mode → Slots → List (Seen × Seen) → Result Slots Refusal
all_reads strict fs m os [] = Ok os
all_reads strict fs m os (e ∷ es) = bind (entry_reads strict fs m os e) (λ ps. all_reads strict fs m ps es)

-- the record that is made of them, at its node
abbrev pub all_made : Seen → Bool → List Field → Mode → Slots → List (Seen × Seen) → Result Meaning Refusal
all_made s strict fs m os es = bind (all_reads strict fs m os es) (λ ps. placed_at s 0 (fields_make fs ps))

-- what is passed over where it goes on
abbrev pub later_logs : Result Slots Refusal → (Slots → List Refusal) → List Refusal
later_logs (Ok os) f = f os
later_logs (Err e) f = []

abbrev pub all_logs : Bool → List Field → Mode → Slots → List (Seen × Seen) → List Refusal
all_logs strict fs m os [] = []
all_logs strict fs m os (e ∷ es) = entry_logs fs m os e ++ later_logs (entry_reads strict fs m os e) (λ ps. all_logs strict fs m ps es)
