-- A truth value by itself, and its text.
use Rattle.std.specs.Prelude.{Ok, ℕ, List, Bool, true, false, if◌then◌else◌, Option, Some, None, [], option_map}
use Rattle.std.specs.Str.{bytes_eq}
use Rattle.sw_tree.specs.Image.{bool_text}
use Rattle.sw_tree.specs.Meaning.{truth, Meaning}
use Rattle.sw_tree.specs.Steps.{bind}
use Rattle.sw_tree.specs.Tree.{truth_at}
use Rattle.sw_tree.specs.Tree as node
use Rattle.sw_elem.specs.Equations.{Writes, Reads}
use Rattle.sw_elem.specs.KeyPlace.{keyed_reads}

-- the truth value; what no truth value means is free
abbrev pub truth_writes : Writes
truth_writes m (truth b) = Ok (node.truth b)
truth_writes m v = Ok node.null

-- the truth value of which that is the text
abbrev pub truth_named : List ℕ → Option Bool
truth_named s = if bytes_eq s (bool_text true) then Some true else (if bytes_eq s (bool_text false) then Some false else None)

-- the truth value that a node is or that a key's text names
abbrev pub truth_reads : Reads
truth_reads m t = bind (keyed_reads truth_at truth_named m t) (λ b. Ok (truth b))

abbrev pub truth_shows : Meaning → List ℕ
truth_shows (truth b) = bool_text b
truth_shows _ = []

abbrev pub truth_parses : List ℕ → Option Meaning
truth_parses s = option_map truth (truth_named s)
