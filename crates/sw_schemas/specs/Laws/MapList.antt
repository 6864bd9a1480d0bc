-- A map that is written as the list of its entries is an array of tuples of two.
use Rattle.std.specs.Prelude.{false, [], ◌∷◌, None}
use Rattle.sw_tree.specs.Meaning.{Meaning}
use Rattle.sw_tree.specs.Meant.{IsPairOf}
use Rattle.sw_tree.specs.Ranks.{Order}
use Rattle.sw_tree.specs.Sorted.{IsMapOf, by_first}
use Rattle.sw_check.specs.Form.{Form, pairs}
use Rattle.sw_check.specs.Laws.SoundForms.{pairs-vec}
use Rattle.sw_elem.specs.Equations.{Writes}
use Rattle.sw_core.specs.MapList.{map_list_writes}
use Rattle.sw_core.specs.Tuple.{tuple_assumes}
use Rattle.sw_schema.specs.Schema.{Schema, array, tuple, schemas}
use Rattle.sw_schemas.specs.FitsSchema.{FitsSchema}
use Rattle.sw_schemas.specs.Laws.Lists.{list_fits}
use Rattle.sw_schemas.specs.Laws.Narrow.{narrow_fits, set_is_list}
use Rattle.sw_schemas.specs.Laws.Tuples.{fit, pair_fits}

pub map_list_fits : {P Q : Meaning → Type 0} {k w : Writes} {x y : Form} {r s : Schema} {c a : Type 0} (R : Order) → FitsSchema P k x r c → FitsSchema Q w y s a →
    FitsSchema (IsMapOf P R Q) (map_list_writes k w) (pairs x y) (array (tuple (schemas (r ∷ s ∷ []))) None None false) (tuple_assumes (c ∷ a ∷ []))
map_list_fits {P = P} {Q = Q} {x = x} {y = y} R keys values =
    narrow_fits (IsMapOf P R Q) (set_is_list (IsPairOf P Q) (by_first R)) (pairs x y) (pairs-vec x y) (list_fits (pair_fits (fit keys) (fit values)))
