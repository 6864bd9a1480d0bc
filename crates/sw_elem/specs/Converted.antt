-- What is written, read and normed of a value through another, of which it is made one to one.
use Rattle.std.specs.Prelude.{Ok}
use Rattle.sw_tree.specs.Meaning.{Meaning}
use Rattle.sw_tree.specs.Steps.{bind}
use Rattle.sw_elem.specs.Equations.{Writes, Reads}
use Rattle.sw_elem.specs.Statements.{Norm}

-- what it is made of is written,
abbrev pub converted_writes : (Meaning → Meaning) → Writes → Writes
converted_writes from w m v = w m (from v)

-- and read, and then made into it
abbrev pub converted_reads : (Meaning → Meaning) → Reads → Reads
converted_reads to r m t = bind (r m t) (λ u. Ok (to u))

abbrev pub converted_norm : (Meaning → Meaning) → (Meaning → Meaning) → Norm → Norm
converted_norm to from n m v = to (n m (from v))
