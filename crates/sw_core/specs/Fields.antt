-- A record's fields: what they mean so far, what they mean behind a further entry, and what is made of them.
use Rattle.std.specs.Prelude.{◌≡◌, ℕ, suc, List, [], ◌∷◌, Bool, cond, Option, Some, None, Result, Ok, Err}
use Rattle.std.specs.Option.{option_or, ok_or}
use Rattle.std.specs.Str.{bytes_eq}
use Rattle.sw_tree.specs.Meaning.{Meaning}
use Rattle.sw_tree.specs.Meant.{row}
use Rattle.sw_tree.specs.Placed.{placed, placed_at, placed_notes}
use Rattle.sw_tree.specs.Seen.{Seen}
use Rattle.sw_tree.specs.Steps.{bind}
use Rattle.sw_tree.specs.Tree.{Tree, text}
use Rattle.sw_tree.specs.declared.mode.Mode.{Mode}
use Rattle.sw_tree.specs.declared.fail.DeError.{DeError}
use Rattle.sw_tree.specs.declared.fail.DeError.TheVariants as fail
use Rattle.sw_tree.specs.declared.fail.Refusal.{Refusal}
use Rattle.sw_tree.specs.declared.fail.SerError.{SerError}
use Rattle.sw_tree.specs.declared.fail.SerFail.{SerFail}
use Rattle.sw_tree.specs.declared.fail.SerFail.TheVariants as ser
use Rattle.sw_core.specs.Parts.{Reading}

-- a field: its name, how its value is read, and what its absence means, if anything
pub record Field : Type 0 where
  pub name : List ℕ
  pub by : Reading
  pub absent : Option Meaning

-- without its value there is no record
abbrev pub required : List ℕ → Reading → Field
required s x = record { name = s; by = x; absent = None }

-- its absence has a value
abbrev pub optional : List ℕ → Reading → Meaning → Field
optional s x v = record { name = s; by = x; absent = Some v }

-- how the values of them are read
abbrev pub fields_by : List Field → List Reading
fields_by [] = []
fields_by (f ∷ fs) = f.by ∷ fields_by fs

-- what the fields mean so far, in the order of declaration
abbrev pub Slots : Type 0
Slots = List (Option Meaning)

abbrev pub no_slots : List Field → Slots
no_slots [] = []
no_slots (f ∷ fs) = None ∷ no_slots fs

-- what a field means behind an entry with its name, which is a key and its value: no second value is read
abbrev pub slot_reads : Reading → Mode → Option Meaning → Seen × Seen → Result (Option Meaning) Refusal
slot_reads x m None e = bind (placed (x.reads m) (x.spot m) e.1) (λ v. Ok (Some v))
slot_reads x m (Some w) e = placed_at e.0 0 (Err fail.DuplicateField)

abbrev pub slot_logs : Reading → Mode → Option Meaning → Seen × Seen → List Refusal
slot_logs x m None e = placed_notes e.1 (x.skips m e.1.tree)
slot_logs x m (Some w) e = []

-- a name of no field is passed over with its value, or refused where the record is strict
abbrev pub other_reads : Bool → Slots → Seen × Seen → Result Slots Refusal
other_reads strict os e = cond strict (placed_at e.0 0 (Err fail.UnknownField)) (Ok os)

-- what the fields mean behind an entry with that name
abbrev pub fields_reads : Bool → List Field → Mode → Slots → List ℕ → Seen × Seen → Result Slots Refusal
fields_reads strict [] m os s e = other_reads strict os e
fields_reads strict (f ∷ fs) m [] s e = other_reads strict [] e
fields_reads strict (f ∷ fs) m (o ∷ os) s e = cond (bytes_eq s f.name) (bind (slot_reads f.by m o e) (λ p. Ok (p ∷ os))) (bind (fields_reads strict fs m os s e) (λ ps. Ok (o ∷ ps)))

abbrev pub fields_logs : List Field → Mode → Slots → List ℕ → Seen × Seen → List Refusal
fields_logs [] m os s e = []
fields_logs (f ∷ fs) m [] s e = []
fields_logs (f ∷ fs) m (o ∷ os) s e = cond (bytes_eq s f.name) (slot_logs f.by m o e) (fields_logs fs m os s e)

-- what the fields mean in the end, or the first that is missing, numbered from n on
abbrev pub collect : ℕ → List Field → Slots → Result (List Meaning) DeError
collect n [] os = Ok []
collect n (f ∷ fs) [] = bind (ok_or f.absent (fail.MissingField n)) (λ v. bind (collect (suc n) fs []) (λ vs. Ok (v ∷ vs)))
collect n (f ∷ fs) (o ∷ os) = bind (ok_or (option_or o f.absent) (fail.MissingField n)) (λ v. bind (collect (suc n) fs os) (λ vs. Ok (v ∷ vs)))

-- the record of them
abbrev pub fields_make : List Field → Slots → Result Meaning DeError
fields_make fs os = bind (collect 0 fs os) (λ vs. Ok (row vs))

-- the name and the value are put in exactly where the value is written; the refusal exactly where it is that one, or want of memory
abbrev pub IsFieldPut : {S : Type 0} → (Tree → S → S) → List ℕ → Result (Unit {0}) SerFail → Result Tree SerError → S → S → Type 0
IsFieldPut put s (Ok u) r old new = (t : Tree) × (r ≡ Ok t) × (new ≡ put t (put (text s) old))
IsFieldPut put s (Err (ser.Unwritable e)) r old new = r ≡ Err e
IsFieldPut put s (Err ser.Memory) r old new = Unit {0}
