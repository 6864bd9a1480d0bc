-- Options that are tried in order, up to the first that reads.
use Rattle.std.specs.Prelude.{List, [], ◌∷◌, ◌++◌, cond, is_ok, Result, Ok, Err}
use Rattle.sw_tree.specs.Fail.{kind_of_error}
use Rattle.sw_tree.specs.Meaning.{Meaning}
use Rattle.sw_tree.specs.Tree.{Tree}
use Rattle.sw_tree.specs.declared.mode.Mode.{Mode}
use Rattle.sw_tree.specs.declared.fail.DeError.{DeError}
use Rattle.sw_tree.specs.declared.fail.DeKind.{DeKind}
use Rattle.sw_elem.specs.Equations.{Reads, Skips}

-- what an option reads, and what it passes over
pub record Reader : Type 0 where
  pub reads : Reads
  pub skips : Skips

abbrev pub reader : Reads → Skips → Reader
reader r s = record { reads = r; skips = s }

-- the value, else what the later options give, with the kind of this refusal before theirs
abbrev pub or_later : Result Meaning DeError → Result Meaning (List DeKind) → Result Meaning (List DeKind)
or_later (Ok v) q = Ok v
or_later (Err e) (Ok v) = Ok v
or_later (Err e) (Err ks) = Err (kind_of_error e ∷ ks)

-- the first value, else the kinds of the refusals in order
abbrev pub first_read : List Reader → Mode → Tree → Result Meaning (List DeKind)
first_read [] m t = Err []
first_read (o ∷ os) m t = or_later (o.reads m t) (first_read os m t)

-- what is passed over by the options that are tried, of which the last is the first that reads
abbrev pub tried_skips : List Reader → Skips
tried_skips [] m t = []
tried_skips (o ∷ os) m t = o.skips m t ++ cond (is_ok (o.reads m t)) [] (tried_skips os m t)
