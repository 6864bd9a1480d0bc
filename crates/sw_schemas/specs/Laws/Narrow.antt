-- What fits does so of fewer values, and where another expression is sound only if its own is.
use Rattle.std.specs.Prelude.{ℕ}
use Rattle.sw_tree.specs.Meaning.{Meaning, list}
use Rattle.sw_tree.specs.Meant.{IsListOf, IsArrayOf}
use Rattle.sw_tree.specs.Ranks.{Order}
use Rattle.sw_tree.specs.Sorted.{IsSetOf}
use Rattle.sw_tree.specs.declared.mode.Mode.{Mode}
use Rattle.sw_check.specs.Blame.{IsSound}
use Rattle.sw_check.specs.Form.{Form}
use Rattle.sw_elem.specs.Equations.{Writes}
use Rattle.sw_schema.specs.JsonSchema.{at_json}
use Rattle.sw_schema.specs.Schema.{Schema}
use Rattle.sw_schemas.specs.FitsSchema.{FitsSchema}

pub narrow_fits : {P : Meaning → Type 0} {w : Writes} {x : Form} {s : Schema} {a : Type 0} (Q : Meaning → Type 0) → ((v : Meaning) → Q v → P v) → (y : Form) → ((m : Mode) → IsSound y m → IsSound x m) → FitsSchema P w x s a → FitsSchema Q w y s a
narrow_fits Q to y sound whole = record { fits = λ z b h v t i q. whole.fits z b (sound (at_json b) h) v t i (to v q) }

-- the items of a set, and so many items, are a list of them
pub set_is_list : (P : Meaning → Type 0) (R : Order) (v : Meaning) → IsSetOf P R v → IsListOf P v
set_is_list P R (list vs) h = h.0
set_is_list P R _ h = absurd h

pub array_is_list : (P : Meaning → Type 0) (n : ℕ) (v : Meaning) → IsArrayOf P n v → IsListOf P v
array_is_list P n (list vs) h = h.0
array_is_list P n _ h = absurd h
