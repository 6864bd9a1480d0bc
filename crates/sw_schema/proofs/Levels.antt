-- The levels of the parts in a row.
use Rattle.std.proofs.Common.{◌≡◌, ℕ, zero, suc, ◌<◌, ◌≤◌, List, [], ◌∷◌, length, get_or, ap, arith}
use Rattle.sw_schema.specs.Schema.{Schema, schemas}
use Rattle.sw_schema.specs.Field.{Field, field_row}
use Rattle.sw_schema.specs.Inner.Levels.{levels, most_levels, field_levels}

pub part_levels : (ss : List Schema) (k : ℕ) (d s : Schema) → k < length ss → s ≡ get_or ss k d → levels s ≤ most_levels (schemas ss)
part_levels [] k d s h e = absurd (omega arith)
part_levels (r ∷ ss) zero d s h e = omega (arith, ap levels e)
part_levels (r ∷ ss) (suc k) d s h e = omega (arith, part_levels ss k d s (omega arith) e)

pub field_part_levels : (fs : List Field) (k : ℕ) (d f : Field) → k < length fs → f ≡ get_or fs k d → levels f.schema ≤ field_levels (field_row fs)
field_part_levels [] k d f h e = absurd (omega arith)
field_part_levels (g ∷ fs) zero d f h e = omega (arith, ap (λ (x : Field). levels x.schema) e)
field_part_levels (g ∷ fs) (suc k) d f h e = omega (arith, field_part_levels fs k d f (omega arith) e)
