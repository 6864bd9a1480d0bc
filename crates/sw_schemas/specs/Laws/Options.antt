-- An option is written as its part, or as null.
use Rattle.std.specs.Prelude.{◌≡◌, zero, suc, Bool, true}
use Rattle.std.proofs.Common.{refl}
use Rattle.std.proofs.lemmas.Bool.{or_left, or_right}
use Rattle.sw_tree.specs.Meaning.{Meaning, nothing, case}
use Rattle.sw_tree.specs.Meant.{IsOptionOf}
use Rattle.sw_tree.specs.Tree.{Tree}
use Rattle.sw_tree.specs.Tree as node
use Rattle.sw_check.specs.Form.{Form, option}
use Rattle.sw_check.specs.Laws.SoundForms.{sound-option}
use Rattle.sw_elem.specs.Equations.{Writes}
use Rattle.sw_core.specs.Option.{option_writes}
use Rattle.sw_schema.specs.JsonSchema.{at_json, WritesValid}
use Rattle.sw_schema.specs.Laws.Leaves.{own_image}
use Rattle.sw_schema.specs.Schema.{Schema}
use Rattle.sw_schema.specs.Valid.{valid}
use Rattle.sw_schemas.specs.Definitions.{or_null}
use Rattle.sw_schemas.specs.FitsSchema.{FitsSchema}

pub part_or_null : (s : Schema) (i : Tree) → valid s i ≡ true → valid (or_null s) i ≡ true
part_or_null s i h = or_left (valid s i) _ h

pub null_or_part : (s : Schema) → valid (or_null s) node.null ≡ true
null_or_part s = or_right (valid s node.null) _ refl

module _ (P : Meaning → Type 0) (w : Writes) (s : Schema) (b : Bool) (part : WritesValid P w s b) where
  pub option_written : WritesValid (IsOptionOf P) (option_writes w) (or_null s) b
  option_written (case zero nothing) t i h p e = own_image (or_null s) node.null t i (option_writes w (at_json b) (case 0 nothing)) refl (null_or_part s) refl p e
  option_written (case (suc zero) v) t i h p e = part_or_null s i (part v t i h p e)
  option_written _ t i h p e = absurd h

pub option_fits : {P : Meaning → Type 0} {w : Writes} {x : Form} {s : Schema} {a : Type 0} → FitsSchema P w x s a → FitsSchema (IsOptionOf P) (option_writes w) (option x) (or_null s) a
option_fits {P = P} {w = w} {x = x} {s = s} part = record { fits = λ y b c. option_written P w s b (part.fits y b ((sound-option x (at_json b) c).2)) }
