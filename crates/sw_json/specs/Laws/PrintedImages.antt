-- The image of a proper tree is one that its text spells, and is no deeper.
use Rattle.std.proofs.Common.{◌≡◌, Option, Some, None, refl, ℕ, ◌≤◌, ◌<◌, List, [], ◌∷◌, arith, suc, option_map, max, subst}
use Rattle.sw_tree.specs.Steps.{Each}
use Rattle.sw_tree.specs.Tree.{Tree, depth, null, truth, int, text, bytes, list, map, Trees, trees_depth, Entries, entries_depth, no_trees, tree, no_entries, entry}
use Rattle.sw_tree.specs.Image.{key_image, numbers, next_tree, next_entry, value_image, trees_image, entries_image, image}
use Rattle.sw_tree.specs.declared.mode.WireKind.TheVariants.{Json}
use Rattle.sw_tree.specs.declared.mode.Place.TheVariants.{Value}
use Rattle.sw_tree.specs.Proper.{IsProper, AreProper, AreProperEntries}
use Rattle.sw_tree.specs.Wires.{PrintsImages}
use Rattle.sw_tree.specs.Laws.Utf8.{signed_decimal-utf8, bool_text-utf8}
use Rattle.sw_json.specs.Images.{IsKey, IsImage, AreImages, AreImageEntries}
use Rattle.sw_json.specs.Spelled.{spelled}
use Rattle.sw_json.specs.Text.{image_text}
use Rattle.sw_json.specs.Laws.Printed.{printed_spelled}

-- ---- keys
abbrev IsKeyIf : Option Tree → Type 0
IsKeyIf None = Unit {0}
IsKeyIf (Some i) = IsKey i × (depth i ≡ 0)

key_is : (t : Tree) → IsProper t → IsKeyIf (key_image t)
key_is null h = tt
key_is (truth b) h = (bool_text-utf8 b, refl)
key_is (int n) h = (signed_decimal-utf8 n h, refl)
key_is (text s) h = (h, refl)
key_is (bytes s) h = tt
key_is (list ts) h = tt
key_is (map es) h = tt

-- ---- values
-- an image, where there is one, of no more levels
abbrev pub IsValueIf : ℕ → Option Tree → Type 0
IsValueIf d None = Unit {0}
IsValueIf d (Some i) = IsImage i × (depth i ≤ d)

abbrev AreItemsIf : ℕ → Option Trees → Type 0
AreItemsIf d None = Unit {0}
AreItemsIf d (Some is) = AreImages is × (trees_depth is ≤ d)

abbrev AreEntriesIf : ℕ → Option Entries → Type 0
AreEntriesIf d None = Unit {0}
AreEntriesIf d (Some es) = AreImageEntries es × (entries_depth es ≤ d)

numbers_are : (s : List ℕ) → Each (λ b. b < 256) s → AreImages (numbers s)
numbers_are [] h = tt
numbers_are (b ∷ bs) h = (omega (arith, h.0), numbers_are bs h.1)

numbers_depth : (s : List ℕ) → trees_depth (numbers s) ≡ 0
numbers_depth [] = refl
numbers_depth (b ∷ bs) = omega (arith, numbers_depth bs)

list_is : (d : ℕ) (o : Option Trees) → AreItemsIf d o → IsValueIf (suc d) (option_map list o)
list_is d None h = tt
list_is d (Some is) h = (h.0, omega (arith, h.1))

map_is : (d : ℕ) (o : Option Entries) → AreEntriesIf d o → IsValueIf (suc d) (option_map map o)
map_is d None h = tt
map_is d (Some es) h = (h.0, omega (arith, h.1))

next_items : (d e : ℕ) (o : Option Tree) (os : Option Trees) → IsValueIf d o → AreItemsIf e os → AreItemsIf (max d e) (next_tree o os)
next_items d e None os h k = tt
next_items d e (Some i) None h k = tt
next_items d e (Some i) (Some is) h k = ((h.0, k.0), omega (arith, h.1, k.1))

next_entries : (c d e : ℕ) (o p : Option Tree) (os : Option Entries) → IsKeyIf o → IsValueIf d p → AreEntriesIf e os → AreEntriesIf (max (max c d) e) (next_entry o p os)
next_entries c d e None p os h k l = tt
next_entries c d e (Some i) None os h k l = tt
next_entries c d e (Some i) (Some j) None h k l = tt
next_entries c d e (Some i) (Some j) (Some es) h k l = ((h.0, k.0, l.0), omega (arith, h.1, k.1, l.1))

mutual
  value_is : (t : Tree) → IsProper t → IsValueIf (depth t) (value_image t)
  value_is null h = (tt, omega arith)
  value_is (truth b) h = (tt, omega arith)
  value_is (int n) h = (h, omega arith)
  value_is (text s) h = (h, omega arith)
  value_is (bytes s) h = (numbers_are s h, omega (arith, numbers_depth s))
  value_is (list ts) h = list_is (trees_depth ts) (trees_image ts) (items_are ts h)
  value_is (map es) h = map_is (entries_depth es) (entries_image es) (entries_are es h)

  items_are : (ts : Trees) → AreProper ts → AreItemsIf (trees_depth ts) (trees_image ts)
  items_are no_trees h = (tt, omega arith)
  items_are (tree t ts) h = next_items (depth t) (trees_depth ts) (value_image t) (trees_image ts) (value_is t h.0) (items_are ts h.1)

  entries_are : (es : Entries) → AreProperEntries es → AreEntriesIf (entries_depth es) (entries_image es)
  entries_are no_entries h = (tt, omega arith)
  entries_are (entry key value es) h =
      next_entries (depth key) (depth value) (entries_depth es) (key_image key) (value_image value) (entries_image es) (key_is key h.0) (value_is value h.1) (entries_are es h.2)

-- the image of a proper tree is such an image, and no deeper
pub image_is : (t i : Tree) → IsProper t → image Json Value t ≡ Some i → IsImage i × (depth i ≤ depth t)
image_is t i h e = subst (IsValueIf (depth t)) e (value_is t h)

pub prints_images : PrintsImages Json spelled image_text
prints_images t i h l e =
    let m = image_is t i h.proper e in
    printed_spelled i m.0 (omega (arith, m.1, h.shallow))
