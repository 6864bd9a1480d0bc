-- A record: a map whose values are read and written each by the adapter of the field that its key names, in value place.
use Rattle.std.specs.Prelude.{ℕ, zero, suc, List, [], ◌∷◌, Bool, true, cond, is_some, Option, Some, None, Ok, Err}
use Rattle.std.specs.Str.{bytes_eq}
use Rattle.sw_tree.specs.Building.{within}
use Rattle.sw_tree.specs.Meaning.{Meaning, list, parts}
use Rattle.sw_tree.specs.Meant.{row}
use Rattle.sw_tree.specs.Mode.{at_value}
use Rattle.sw_tree.specs.Steps.{bind}
use Rattle.sw_tree.specs.Tree.{Tree, entries, pairs, kind_of}
use Rattle.sw_tree.specs.Tree as node
use Rattle.sw_tree.specs.declared.mode.Kind.{Kind}
use Rattle.sw_tree.specs.declared.mode.Mode.{Mode}
use Rattle.sw_tree.specs.declared.fail.DeError.{DeError}
use Rattle.sw_tree.specs.declared.fail.DeError.TheVariants as fail
use Rattle.sw_elem.specs.Equations.{Writes, Reads, Spots, Skips}
use Rattle.sw_elem.specs.Statements.{Norm}
use Rattle.sw_core.specs.Fields.{Field, Slots, no_slots, fields_make}
use Rattle.sw_core.specs.Parts.{Reading, row_writes, row_norm}
use Rattle.sw_core.specs.Plans.{Plans, refused, plan_reads, plan_spot, plan_skips}
use Rattle.sw_core.specs.Rows.{Reader}

-- ---- reading

-- what one tree gives a record: nothing, or the number of a field and what its value means
abbrev pub Given : Type 0
Given = Option (ℕ × Meaning)

abbrev pub gives_none : Reader Given
gives_none = record { reads = λ t. Ok None; spot = λ t. 0; skips = λ t. [] }

abbrev pub refuses_key : DeError → Reader Given
refuses_key e = record { reads = λ t. Err e; spot = λ t. 0; skips = λ t. [] }

abbrev pub gives_field : Mode → ℕ → Reading → Reader Given
gives_field m i x = record { reads = λ t. bind (x.reads m t) (λ v. Ok (Some (i, v))); spot = x.spot m; skips = x.skips m }

-- a key is no text, or the name of no field, or of one that has its value already, or of the field of that number
pub data FieldKey : Type 0 where
  nameless : Kind → FieldKey
  unknown : FieldKey
  repeated : FieldKey
  wanted : ℕ → Reading → FieldKey

abbrev pub next_key : FieldKey → FieldKey
next_key (wanted i x) = wanted (suc i) x
next_key (nameless k) = nameless k
next_key unknown = unknown
next_key repeated = repeated

-- by the fields, and which of them have values
abbrev pub name_of : List Field → List Bool → List ℕ → FieldKey
name_of [] bs s = unknown
name_of (f ∷ fs) [] s = unknown
name_of (f ∷ fs) (b ∷ bs) s = cond (bytes_eq s f.name) (cond b repeated (wanted 0 f.by)) (next_key (name_of fs bs s))

abbrev pub key_of : List Field → List Bool → Tree → FieldKey
key_of fs bs (node.text s) = name_of fs bs s
key_of fs bs k = nameless (kind_of k)

-- the readers of a key and of its value: a strict record refuses names of no field
abbrev pub key_by : Bool → FieldKey → Reader Given
key_by strict (nameless k) = refuses_key (fail.InvalidType k)
key_by strict unknown = cond strict (refuses_key fail.UnknownField) gives_none
key_by strict repeated = refuses_key fail.DuplicateField
key_by strict (wanted i x) = gives_none

abbrev pub value_by : Mode → FieldKey → Reader Given
value_by m (wanted i x) = gives_field m i x
value_by m _ = gives_none

-- which fields have values behind a key
abbrev pub mark_at : ℕ → List Bool → List Bool
mark_at i [] = []
mark_at zero (b ∷ bs) = true ∷ bs
mark_at (suc i) (b ∷ bs) = b ∷ mark_at i bs

abbrev pub mark : FieldKey → List Bool → List Bool
mark (wanted i x) bs = mark_at i bs
mark _ bs = bs

abbrev pub filled : Slots → List Bool
filled [] = []
filled (o ∷ os) = is_some o ∷ filled os

-- the readers of entries with those keys, each key's and its value's by turns
abbrev pub keyed_by : Bool → List Field → Mode → List Bool → List Tree → List (Reader Given)
keyed_by strict fs m bs [] = []
keyed_by strict fs m bs (k ∷ ks) = key_by strict (key_of fs bs k) ∷ value_by m (key_of fs bs k) ∷ keyed_by strict fs m (mark (key_of fs bs k) bs) ks

abbrev pub keys_of : List (Tree × Tree) → List Tree
keys_of [] = []
keys_of (e ∷ es) = e.0 ∷ keys_of es

-- the fields' values, as they were given one after another
abbrev pub put_at : ℕ → Meaning → Slots → Slots
put_at i v [] = []
put_at zero v (o ∷ os) = Some v ∷ os
put_at (suc i) v (o ∷ os) = o ∷ put_at i v os

abbrev pub fill : Slots → List Given → Slots
fill os [] = os
fill os (None ∷ gs) = fill os gs
fill os (Some p ∷ gs) = fill (put_at p.0 p.1 os) gs

abbrev pub record_plan : Bool → List Field → Plans Given
record_plan strict fs m (node.map es) = record { readers = keyed_by strict fs (at_value m) (filled (no_slots fs)) (keys_of (pairs es)); makes = λ gs. fields_make fs (fill (no_slots fs) gs) }
record_plan strict fs m t = refused (fail.InvalidType (kind_of t))

abbrev pub record_reads : Bool → List Field → Reads
record_reads strict fs = plan_reads (record_plan strict fs)

abbrev pub record_spot : Bool → List Field → Spots
record_spot strict fs = plan_spot (record_plan strict fs)

abbrev pub record_skips : Bool → List Field → Skips
record_skips strict fs = plan_skips (record_plan strict fs)

-- ---- writing

-- each tree under its name
abbrev pub named : List (List ℕ) → List Tree → List (Tree × Tree)
named [] ts = []
named (s ∷ ss) [] = []
named (s ∷ ss) (t ∷ ts) = (node.text s, t) ∷ named ss ts

-- an entry for each field in the order of declaration, or the first refusal; what no row means is free
abbrev pub record_writes : List (List ℕ) → List Writes → Writes
record_writes ss ws m (list vs) = bind (row_writes ws (at_value m) (parts vs)) (λ ts. within (node.map (entries (named ss ts))))
record_writes ss ws m v = Ok node.null

-- the norm of each field
abbrev pub record_norm : List Norm → Norm
record_norm ns m (list vs) = row (row_norm ns (at_value m) (parts vs))
record_norm ns m v = v
