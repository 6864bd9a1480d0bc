-- A range: a strict record of its bounds, which is also read of the list of them, each by the same adapter in value place.
use Rattle.std.specs.Prelude.{ℕ, List, [], ◌∷◌, codes, true, false}
use Rattle.sw_tree.specs.Meaning.{Meaning, list, meaning, no_meanings, truth}
use Rattle.sw_tree.specs.Meant.{pair}
use Rattle.sw_tree.specs.Tree as node
use Rattle.sw_elem.specs.Equations.{Writes, Reads, Spots, Skips}
use Rattle.sw_elem.specs.Statements.{Norm}
use Rattle.sw_elem.specs.Converted.{converted_writes, converted_reads, converted_norm}
use Rattle.sw_core.specs.Fields.{Field, required, fields_by}
use Rattle.sw_core.specs.Parts.{Reading}
use Rattle.sw_core.specs.Record.{record_writes, record_reads, record_spot, record_skips, record_norm}
use Rattle.sw_core.specs.Tuple.{tuple_reads, tuple_spot, tuple_skips}

-- the names of both bounds
abbrev pub range_names : List (List ℕ)
range_names = codes "start" ∷ codes "end" ∷ []

-- a field for each name, without whose value there is no range
abbrev pub bounds : List (List ℕ) → Reading → List Field
bounds [] x = []
bounds (s ∷ ss) x = required s x ∷ bounds ss x

-- ---- reading: a list in the order of the fields, and any other tree as the record

abbrev pub range_reads : List Field → Reads
range_reads fs m (node.list ts) = tuple_reads (fields_by fs) m (node.list ts)
range_reads fs m t = record_reads true fs m t

abbrev pub range_spot : List Field → Spots
range_spot fs m (node.list ts) = tuple_spot (fields_by fs) m (node.list ts)
range_spot fs m t = record_spot true fs m t

abbrev pub range_skips : List Field → Skips
range_skips fs m (node.list ts) = tuple_skips (fields_by fs) m (node.list ts)
range_skips fs m t = record_skips true fs m t

-- ---- a range with its end: that its walk has ended isn't written, and what is read hasn't been walked

abbrev pub both_bounds : Meaning → Meaning
both_bounds (list (meaning a (meaning b vs))) = pair a b
both_bounds v = v

abbrev pub unwalked : Meaning → Meaning
unwalked (list (meaning a (meaning b vs))) = list (meaning a (meaning b (meaning (truth false) no_meanings)))
unwalked v = v

abbrev pub inclusive_writes : Writes → Writes
inclusive_writes w = converted_writes both_bounds (record_writes range_names (w ∷ w ∷ []))

abbrev pub inclusive_reads : Reading → Reads
inclusive_reads x = converted_reads unwalked (range_reads (bounds range_names x))

abbrev pub inclusive_norm : Norm → Norm
inclusive_norm n = converted_norm unwalked both_bounds (record_norm (n ∷ n ∷ []))
