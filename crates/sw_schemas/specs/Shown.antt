-- What JSON gives back of a value in hand, and whether that is valid for a schema.
use Rattle.std.specs.Prelude.{◌≡◌, Bool, Result, Ok, Err}
use Rattle.std.specs.Option.{ok_or}
use Rattle.sw_tree.specs.Image.{value_image}
use Rattle.sw_tree.specs.Meaning.{Meaning}
use Rattle.sw_tree.specs.Mode.{plain}
use Rattle.sw_tree.specs.Steps.{bind}
use Rattle.sw_tree.specs.Tree.{Tree}
use Rattle.sw_tree.specs.declared.fail.SerError.{SerError}
use Rattle.sw_tree.specs.declared.fail.SerError.TheVariants as reason
use Rattle.sw_tree.specs.declared.fail.SerFail.{SerFail}
use Rattle.sw_tree.specs.declared.fail.SerFail.TheVariants as fail
use Rattle.sw_tree.specs.declared.mode.WireKind.TheVariants.{Json}
use Rattle.sw_elem.specs.Equations.{Writes}
use Rattle.sw_schema.specs.Schema.{Schema}
use Rattle.sw_schema.specs.Valid.{valid}

-- the image of what is written, or why there is none
abbrev pub shown : Writes → Meaning → Result Tree SerError
shown writes v = bind (writes (plain Json) v) (λ t. ok_or (value_image t) reason.Key)

-- whether it is valid, the refusal exactly where it is that one, or want of memory
abbrev pub IsShownValid : Result Bool SerFail → Result Tree SerError → Schema → Type 0
IsShownValid (Ok b) r s = bind r (λ i. Ok (valid s i)) ≡ Ok b
IsShownValid (Err (fail.Unwritable e)) r s = r ≡ Err e
IsShownValid (Err fail.Memory) r s = Unit {0}
