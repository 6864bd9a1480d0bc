-- Pairs that are written as the entries of a map are an object of their values' schema.
use Rattle.std.specs.Prelude.{◌≡◌, ℕ, zero, suc, Bool, true, List, Option, Some, None, Result, Ok, Err}
use Rattle.std.proofs.Common.{refl, ap, sym, ◌∙◌}
use Rattle.sw_tree.specs.Image.{key_image, value_image}
use Rattle.sw_tree.specs.Meaning.{Meaning, Meanings, nothing, case, list, meaning, no_meanings, parts}
use Rattle.sw_tree.specs.Meant.{IsListOf, IsArrayOf, IsOptionOf, IsPairOf}
use Rattle.sw_tree.specs.Mode.{at_key}
use Rattle.sw_tree.specs.Ranks.{Order}
use Rattle.sw_tree.specs.Sorted.{IsSetOf, IsMapOf, by_first}
use Rattle.sw_tree.specs.Steps.{bind, traverse}
use Rattle.sw_tree.specs.Laws.Steps.{option_traverse}
use Rattle.sw_tree.specs.Tree.{Tree, entries}
use Rattle.sw_tree.specs.Laws.Tree.{pairs-entries}
use Rattle.sw_tree.specs.Tree as node
use Rattle.sw_tree.specs.declared.mode.WireKind.TheVariants.{Json}
use Rattle.sw_tree.specs.declared.mode.Place.TheVariants.{Value}
use Rattle.sw_tree.specs.declared.fail.SerError.{SerError}
use Rattle.sw_check.specs.Form.{Form, map, key_map, map_set}
use Rattle.sw_check.specs.Laws.SoundForms.{sound-map, key_map-map, map_set-map}
use Rattle.sw_elem.specs.Equations.{Writes, Reads, Spots, Skips}
use Rattle.sw_elem.specs.Lawful.{Lawful}
use Rattle.sw_elem.specs.Statements.{Norm}
use Rattle.sw_core.specs.Entries.{pair_writes, entries_writes}
use Rattle.sw_core.specs.OptionalPair.{listed, optional_pair_writes}
use Rattle.sw_core.specs.Laws.Images.{both_images, entry_image, map-image, mapped_some}
use Rattle.sw_core.specs.Laws.Within.{within_ok}
use Rattle.sw_schema.specs.JsonSchema.{at_json, WritesValid}
use Rattle.sw_schema.specs.Schema.{Schema, object}
use Rattle.sw_schema.specs.Valid.{valid, all_pass}
use Rattle.sw_schemas.specs.FitsSchema.{FitsSchema}
use Rattle.sw_schemas.specs.Laws.Narrow.{narrow_fits, set_is_list, array_is_list}
use Rattle.sw_schemas.specs.Laws.Written.{IsImageOf, AreImages, are_images, all_written}

-- the image of pairs that are written is the map of the images of their keys and values
record IsMapImage (k w : Writes) (b : Bool) (vs : Meanings) (i : Tree) : Type 0 where
  images : List (Tree × Tree)
  is : i ≡ node.map (entries images)
  each : AreImages (pair_writes (k (at_key (at_json b))) (w (at_json b))) (entry_image Json) (parts vs) images

map_imaged : (k w : Writes) (b : Bool) (vs : Meanings) (t i : Tree) → entries_writes k w (at_json b) (list vs) ≡ Ok t → value_image t ≡ Some i → IsMapImage k w b vs i
map_imaged k w b vs t i p e =
    let f = pair_writes (k (at_key (at_json b))) (w (at_json b)) in
    let c = within_ok (λ es. node.map (entries es)) (traverse f (parts vs)) t p in
    let d = mapped_some (λ is. node.map (entries is)) (option_traverse (entry_image Json) c.0) i (sym (map-image Json Value t c.0 refl c.2) ∙ e) in
    record { images = d.0; is = d.2; each = are_images f (entry_image Json) (parts vs) c.0 d.0 c.1 d.1 }

second_written : (k w : Result Tree SerError) (y : Tree × Tree) → bind k (λ s. bind w (λ t. Ok (s, t))) ≡ Ok y → w ≡ Ok y.1
second_written (Ok s) (Ok t) y p = let e : (s, t) ≡ y = cc in ap (λ (z : Tree × Tree). Ok z.1) e
second_written (Ok s) (Err e) y p = absurd (cc)
second_written (Err e) w y p = absurd (cc)

second_imaged : (o q : Option Tree) (z : Tree × Tree) → both_images o q ≡ Some z → q ≡ Some z.1
second_imaged (Some s) (Some t) z p = let e : (s, t) ≡ z = cc in ap (λ (x : Tree × Tree). Some x.1) e
second_imaged (Some s) None z p = absurd (cc)
second_imaged None q z p = absurd (cc)

-- the value of each entry of the image is valid
value_valid : (P Q : Meaning → Type 0) (f g : Meaning → Result Tree SerError) (h : Tree → Bool) → ((v : Meaning) (t i : Tree) → Q v → g v ≡ Ok t → value_image t ≡ Some i → h i ≡ true) →
    (x : Meaning) (z : Tree × Tree) → IsPairOf P Q x → IsImageOf (pair_writes f g) (entry_image Json) x z → h z.1 ≡ true
value_valid P Q f g h part (list (meaning a (meaning b no_meanings))) z k q =
    part b (q.written).1 z.1 k.1 (second_written (f a) (g b) q.written q.writes) (second_imaged (key_image (q.written).0) (value_image (q.written).1) z q.images)
value_valid P Q f g h part _ z k q = absurd k

plain_object : (s : Schema) (i : Tree) (is : List (Tree × Tree)) → i ≡ node.map (entries is) → all_pass (λ (e : Tree × Tree). valid s e.1) is ≡ true → valid (object s) i ≡ true
plain_object s i is e h = rw (e, pairs-entries is) h

module _ (P Q : Meaning → Type 0) (k w : Writes) (s : Schema) (b : Bool) (part : WritesValid Q w s b) where
  entries_written : WritesValid (IsListOf (IsPairOf P Q)) (entries_writes k w) (object s) b
  entries_written (list vs) t i h p e =
      let c = map_imaged k w b vs t i p e in
      let f = k (at_key (at_json b)) in
      let g = w (at_json b) in
      plain_object s i c.images c.is
      (all_written (pair_writes f g) (entry_image Json) (IsPairOf P Q) (λ (z : Tree × Tree). valid s z.1) (value_valid P Q f g (valid s) part) (parts vs) c.images h c.each)
  entries_written _ t i h p e = absurd h

-- of keys by any adapter, whose laws name it
module _ {P Q : Meaning → Type 0} {k w : Writes} {r : Reads} {p : Spots} {l : Skips} {x y : Form} {n : Norm} {s : Schema} {c a : Type 0} (keys : Lawful P k r p l x n c) (values : FitsSchema Q w y s a) where
  abbrev IsPair : Meaning → Type 0
  IsPair = IsPairOf P Q

  pub entries_fits : FitsSchema (IsListOf IsPair) (entries_writes k w) (map x y) (object s) (c × a)
  entries_fits = record { fits = λ z b h. entries_written P Q k w s b (values.fits z.1 b ((sound-map x y (at_json b) h).2)) }

  -- of pairwise different keys
  pub map_fits : (R : Order) → FitsSchema (IsMapOf P R Q) (entries_writes k w) (key_map x y) (object s) (c × a)
  map_fits R = narrow_fits (IsMapOf P R Q) (set_is_list IsPair (by_first R)) (key_map x y) (key_map-map x y) entries_fits

  -- of pairwise different pairs
  pub pair_set_fits : (R : Order) → FitsSchema (IsSetOf IsPair R) (entries_writes k w) (map_set x y) (object s) (c × a)
  pair_set_fits R = narrow_fits (IsSetOf IsPair R) (set_is_list IsPair R) (map_set x y) (map_set-map x y) entries_fits

  -- of so many pairs
  pub entry_array_fits : (m : ℕ) → FitsSchema (IsArrayOf IsPair m) (entries_writes k w) (map x y) (object s) (c × a)
  entry_array_fits m = narrow_fits (IsArrayOf IsPair m) (array_is_list IsPair m) (map x y) (λ m h. h) entries_fits

  -- of one pair or none
  one_written : (b : Bool) → WritesValid (IsListOf IsPair) (entries_writes k w) (object s) b → WritesValid (IsOptionOf IsPair) (optional_pair_writes k w) (object s) b
  one_written b whole (case zero nothing) t i h = whole (listed (case zero nothing)) t i tt
  one_written b whole (case (suc zero) v) t i h = whole (listed (case (suc zero) v)) t i (h, tt)
  one_written b whole _ t i h = absurd h

  pub optional_pair_fits : FitsSchema (IsOptionOf IsPair) (optional_pair_writes k w) (map x y) (object s) (c × a)
  optional_pair_fits = record { fits = λ z b h. one_written b (entries_fits.fits z b h) }
