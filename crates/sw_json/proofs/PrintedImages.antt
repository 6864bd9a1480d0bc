-- What is printed of a tree is the text of its image.
use Rattle.std.proofs.Common.{◌≡◌, ℕ, ◌≤◌, List, [], Option, Some, None, option_map, ap, sym, ◌∙◌, arith, Ok, refl}
use Rattle.sw_tree.specs.Tree.{Tree, depth}
use Rattle.sw_tree.specs.Image.{image}
use Rattle.sw_tree.specs.declared.mode.WireKind.TheVariants.{Json}
use Rattle.sw_tree.specs.declared.mode.Place.TheVariants.{Value}
use Rattle.sw_tree.specs.Proper.{IsProper}
use Rattle.sw_json.specs.Spelled.{spelled}
use Rattle.sw_json.specs.Text.{text_of, json_text}
use Rattle.sw_json.specs.Laws.Printed.{printed_spelled}
use Rattle.sw_json.specs.Laws.PrintedImages.{image_is}

printed_of : (t : Tree) (o : Option Tree) (s : List ℕ) → image Json Value t ≡ o → IsProper t → depth t ≤ 128 → option_map (λ i. text_of i []) o ≡ Some s → (i : Tree) × (image Json Value t ≡ Some i) × (spelled s ≡ Ok i)
printed_of t None s e h l k = cc
printed_of t (Some i) s e h l k =
    let m = image_is t i h e in
    let same : text_of i [] ≡ s = cc in
    (i, e, ap spelled (sym same) ∙ printed_spelled i m.0 (omega (arith, m.1, l)))

-- so what a proper tree is printed as spells its image
pub printed_image : (t : Tree) (s : List ℕ) → IsProper t → depth t ≤ 128 → json_text t ≡ Some s → (i : Tree) × (image Json Value t ≡ Some i) × (spelled s ≡ Ok i)
printed_image t s h l k = printed_of t (image Json Value t) s refl h l k
