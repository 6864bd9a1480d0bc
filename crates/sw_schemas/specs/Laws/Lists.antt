-- A list of values is written as an array of its parts' schema.
use Rattle.std.specs.Prelude.{◌≡◌, Bool, true, false, List, None, Some, Ok}
use Rattle.std.proofs.Common.{refl, sym, ◌∙◌}
use Rattle.sw_tree.specs.Image.{image, value_image}
use Rattle.sw_tree.specs.Meaning.{Meaning, list, parts, Meanings}
use Rattle.sw_tree.specs.Meant.{IsListOf}
use Rattle.sw_tree.specs.Steps.{traverse, Each}
use Rattle.sw_tree.specs.Laws.Steps.{option_traverse}
use Rattle.sw_tree.specs.Tree.{Tree, trees}
use Rattle.sw_tree.specs.Laws.Tree.{items-trees}
use Rattle.sw_tree.specs.Tree as node
use Rattle.sw_tree.specs.declared.mode.WireKind.TheVariants.{Json}
use Rattle.sw_tree.specs.declared.mode.Place.TheVariants.{Value}
use Rattle.sw_check.specs.Form.{Form, vec}
use Rattle.sw_check.specs.Laws.SoundForms.{sound-vec}
use Rattle.sw_elem.specs.Equations.{Writes}
use Rattle.sw_core.specs.Vec.{list_writes}
use Rattle.sw_core.specs.Laws.Images.{list-image, mapped_some}
use Rattle.sw_core.specs.Laws.Within.{within_ok}
use Rattle.sw_schema.specs.JsonSchema.{at_json, WritesValid}
use Rattle.sw_schema.specs.Schema.{Schema, array}
use Rattle.sw_schema.specs.Valid.{valid, all_pass}
use Rattle.sw_schemas.specs.FitsSchema.{FitsSchema}
use Rattle.sw_schemas.specs.Laws.Written.{AreImages, are_images, all_written}

-- the image of a list that is written is the list of the images of its parts
pub record IsListImage (w : Writes) (b : Bool) (vs : Meanings) (i : Tree) : Type 0 where
  pub images : List Tree
  pub is : i ≡ node.list (trees images)
  pub each : AreImages (w (at_json b)) value_image (parts vs) images

pub list_imaged : (w : Writes) (b : Bool) (vs : Meanings) (t i : Tree) → list_writes w (at_json b) (list vs) ≡ Ok t → value_image t ≡ Some i → IsListImage w b vs i
list_imaged w b vs t i p e =
    let f = w (at_json b) in
    let c = within_ok (λ ts. node.list (trees ts)) (traverse f (parts vs)) t p in
    let d = mapped_some (λ is. node.list (trees is)) (option_traverse (image Json Value) c.0) i (sym (list-image Json Value t c.0 refl c.2) ∙ e) in
    record { images = d.0; is = d.2; each = are_images f value_image (parts vs) c.0 d.0 c.1 d.1 }

plain_array : (s : Schema) (i : Tree) (is : List Tree) → i ≡ node.list (trees is) → all_pass (valid s) is ≡ true → valid (array s None None false) i ≡ true
plain_array s i is e h = rw (e, items-trees is, h) refl

-- each item of the image is valid
pub items_valid : (P : Meaning → Type 0) (w : Writes) (s : Schema) (b : Bool) → WritesValid P w s b → (vs : Meanings) (is : List Tree) → Each P (parts vs) → AreImages (w (at_json b)) value_image (parts vs) is → all_pass (valid s) is ≡ true
items_valid P w s b part vs is h each = all_written (w (at_json b)) value_image P (valid s) (λ x z k q. part x q.written z k q.writes q.images) (parts vs) is h each

module _ (P : Meaning → Type 0) (w : Writes) (s : Schema) (b : Bool) (part : WritesValid P w s b) where
  pub list_written : WritesValid (IsListOf P) (list_writes w) (array s None None false) b
  list_written (list vs) t i h p e = let c = list_imaged w b vs t i p e in plain_array s i c.images c.is (items_valid P w s b part vs c.images h c.each)
  list_written _ t i h p e = absurd h

pub list_fits : {P : Meaning → Type 0} {w : Writes} {x : Form} {s : Schema} {a : Type 0} → FitsSchema P w x s a → FitsSchema (IsListOf P) (list_writes w) (vec x) (array s None None false) a
list_fits {P = P} {w = w} {x = x} {s = s} part = record { fits = λ y b c. list_written P w s b (part.fits y b ((sound-vec x (at_json b) c).1)) }
