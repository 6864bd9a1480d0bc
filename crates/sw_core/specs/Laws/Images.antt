-- The image of a list is the list of its items' images, that of a map the map of its entries', each part in its place.
use Rattle.std.specs.Prelude.{◌≡◌, List, [], ◌∷◌, false, Option, Some, None, option_map}
use Rattle.std.proofs.Common.{refl, ap, sym, ◌∙◌}
use Rattle.sw_tree.specs.Image.{image, key_image, value_image, trees_image, next_tree, entries_image, next_entry}
use Rattle.sw_tree.specs.Laws.Steps.{option_cons, option_traverse, option_traverse-Some}
use Rattle.sw_tree.specs.Tree.{Tree, list, trees, map, entries}
use Rattle.sw_tree.specs.declared.mode.WireKind.{WireKind}
use Rattle.sw_tree.specs.declared.mode.WireKind.TheVariants.{Json, Compact}
use Rattle.sw_tree.specs.declared.mode.Place.{Place}
use Rattle.sw_tree.specs.declared.mode.Place.TheVariants.{Value, Key}
use Rattle.sw_check.specs.Rules.{is_json_key}

mapped_twice : {A B C : Type 0} (g : B → C) (f : A → B) (o : Option A) → option_map g (option_map f o) ≡ option_map (λ x. g (f x)) o
mapped_twice g f (Some x) = refl
mapped_twice g f None = refl

-- away from keys of JSON an image is that in value place
pub image-elsewhere : (w : WireKind) (p : Place) (t : Tree) → is_json_key w p ≡ false → image w p t ≡ image w Value t
image-elsewhere Compact p t e = refl
image-elsewhere Json Value t e = refl
image-elsewhere Json Key t e = absurd (cc)

-- what has an image has parts with images
pub mapped_some : {A B : Type 0} (f : A → B) (o : Option A) (y : B) → option_map f o ≡ Some y → (x : A) × (o ≡ Some x) × (y ≡ f x)
mapped_some f (Some x) y p = (x, refl, cc)
mapped_some f None y p = absurd (cc)

-- ---- lists

next_tree-cons : (o : Option Tree) (r : Option (List Tree)) → next_tree o (option_map trees r) ≡ option_map trees (option_cons o r)
next_tree-cons (Some t) (Some ts) = refl
next_tree-cons (Some t) None = refl
next_tree-cons None r = refl

trees_image-each : (ts : List Tree) → trees_image (trees ts) ≡ option_map trees (option_traverse value_image ts)
trees_image-each [] = refl
trees_image-each (t ∷ ts) = rw (trees_image-each ts) (next_tree-cons (value_image t) (option_traverse value_image ts))

value_list : (w : WireKind) (ts : List Tree) → image w Value (list (trees ts)) ≡ option_map (λ is. list (trees is)) (option_traverse (image w Value) ts)
value_list Compact ts = sym (ap (option_map (λ is. list (trees is))) (option_traverse-Some ts))
value_list Json ts = ap (option_map list) (trees_image-each ts) ∙ mapped_twice list trees (option_traverse value_image ts)

pub list-image : (w : WireKind) (p : Place) (t : Tree) (ts : List Tree) → is_json_key w p ≡ false → t ≡ list (trees ts) → image w p t ≡ option_map (λ is. list (trees is)) (option_traverse (image w Value) ts)
list-image w p t ts away e = rw e (image-elsewhere w p (list (trees ts)) away ∙ value_list w ts)

-- ---- maps

abbrev pub both_images : Option Tree → Option Tree → Option (Tree × Tree)
both_images (Some k) (Some v) = Some (k, v)
both_images _ _ = None

abbrev pub entry_image : WireKind → Tree × Tree → Option (Tree × Tree)
entry_image w e = both_images (image w Key e.0) (image w Value e.1)

next_entry-cons : (o q : Option Tree) (r : Option (List (Tree × Tree))) → next_entry o q (option_map entries r) ≡ option_map entries (option_cons (both_images o q) r)
next_entry-cons (Some k) (Some v) (Some es) = refl
next_entry-cons (Some k) (Some v) None = refl
next_entry-cons (Some k) None r = refl
next_entry-cons None q r = refl

entries_image-each : (es : List (Tree × Tree)) → entries_image (entries es) ≡ option_map entries (option_traverse (entry_image Json) es)
entries_image-each [] = refl
entries_image-each (e ∷ es) = rw (entries_image-each es) (next_entry-cons (key_image e.0) (value_image e.1) (option_traverse (entry_image Json) es))

each-Compact : (es : List (Tree × Tree)) → option_traverse (entry_image Compact) es ≡ Some es
each-Compact es = option_traverse-Some es

value_map : (w : WireKind) (es : List (Tree × Tree)) → image w Value (map (entries es)) ≡ option_map (λ is. map (entries is)) (option_traverse (entry_image w) es)
value_map Compact es = sym (ap (option_map (λ is. map (entries is))) (each-Compact es))
value_map Json es = ap (option_map map) (entries_image-each es) ∙ mapped_twice map entries (option_traverse (entry_image Json) es)

pub map-image : (w : WireKind) (p : Place) (t : Tree) (es : List (Tree × Tree)) → is_json_key w p ≡ false → t ≡ map (entries es) → image w p t ≡ option_map (λ is. map (entries is)) (option_traverse (entry_image w) es)
map-image w p t es away e = rw e (image-elsewhere w p (map (entries es)) away ∙ value_map w es)
