-- A value of one of two variants is written as the map of the one entry that names it, or, without a value, as its name: exactly one of their schemas takes it.
use Rattle.std.specs.Prelude.{bytes_eq, ◌≡◌, ℕ, zero, suc, Bool, true, false, List, [], ◌∷◌, Option, Some, None, Ok}
use Rattle.std.proofs.Common.{refl, ap, sym, ◌∙◌}
use Rattle.sw_tree.specs.Image.{image, value_image}
use Rattle.sw_tree.specs.Meaning.{Meaning, nothing, case}
use Rattle.sw_tree.specs.Meant.{IsResultOf, IsBoundOf}
use Rattle.sw_tree.specs.Laws.Steps.{option_cons}
use Rattle.sw_tree.specs.Tree.{Tree, entries}
use Rattle.sw_tree.specs.Tree as node
use Rattle.sw_tree.specs.declared.mode.WireKind.TheVariants.{Json}
use Rattle.sw_tree.specs.declared.mode.Place.TheVariants.{Value}
use Rattle.sw_check.specs.Form.{Form, form, no_forms}
use Rattle.sw_check.specs.Form as expr
use Rattle.sw_check.specs.Laws.SoundForms.{sound-tagged}
use Rattle.sw_elem.specs.Equations.{Writes}
use Rattle.sw_core.specs.Tagged.{Names, entry_of, case_writes, alone_writes, tagged_writes, result_names, bound_names}
use Rattle.sw_core.specs.Laws.Images.{both_images, map-image, mapped_some}
use Rattle.sw_core.specs.Laws.Tagged.{IsAlone, IsTagged, result-tagged, bound-tagged}
use Rattle.sw_core.specs.Laws.Within.{within_ok}
use Rattle.sw_schema.specs.JsonSchema.{at_json, WritesValid}
use Rattle.sw_schema.specs.Schema.{Schema, Schemas, constant, one_of, schema, no_schemas}
use Rattle.sw_schema.specs.Valid.{valid}
use Rattle.sw_schema.specs.Laws.OneOf.{NoneValid, tagged, with_field, first_tagged, second_tagged, constant_third}
use Rattle.sw_schemas.specs.FitsSchema.{FitsSchema}

-- the schema of the variant without a value, if there is one
abbrev pub alone_schemas : Option (List ℕ) → Schemas
alone_schemas None = no_schemas
alone_schemas (Some s) = schema (constant s) no_schemas

-- exactly one of the variants
abbrev pub variants : Names → Schema → Schema → Schema
variants n r s = one_of (schema (with_field n.first r) (schema (with_field n.second s) (alone_schemas n.alone)))

-- a map is no text
alone_takes_no_map : (o : Option (List ℕ)) (name : List ℕ) (v : Tree) → NoneValid (alone_schemas o) (tagged name v)
alone_takes_no_map None name v = tt
alone_takes_no_map (Some s) name v = (refl, tt)

-- the image of a map of one entry is the map of its value's image
one_imaged : (name : List ℕ) (o : Option Tree) (es : List (Tree × Tree)) → option_cons (both_images (Some (node.text name)) o) (Some []) ≡ Some es → (z : Tree) × (o ≡ Some z) × (es ≡ (node.text name, z) ∷ [])
one_imaged name (Some z) es e = (z, refl, (cc))
one_imaged name None es e = absurd (cc)

tag_imaged : (name : List ℕ) (t i : Tree) → value_image (tagged name t) ≡ Some i → (z : Tree) × (value_image t ≡ Some z) × (i ≡ tagged name z)
tag_imaged name t i e =
    let c = mapped_some (λ es. node.map (entries es)) (option_cons (both_images (Some (node.text name)) (value_image t)) (Some [])) i (sym (map-image Json Value (tagged name t) ((node.text name, t) ∷ []) refl refl) ∙ e) in
    let d = one_imaged name (value_image t) c.0 c.1 in
    (d.0, d.1, c.2 ∙ ap (λ (es : List (Tree × Tree)). node.map (entries es)) d.2)

-- what is written of a value under its variant's name
case_written : (name : List ℕ) (P : Meaning → Type 0) (w : Writes) (s : Schema) (b : Bool) → WritesValid P w s b → (v : Meaning) (t i : Tree) → P v → case_writes name (w (at_json b) v) ≡ Ok t → value_image t ≡ Some i → (z : Tree) × (valid s z ≡ true) × (i ≡ tagged name z)
case_written name P w s b part v t i h p e =
    let c = within_ok (entry_of name) (w (at_json b) v) t p in
    let d = tag_imaged name c.0 i (ap value_image (sym c.2) ∙ e) in
    (d.0, part v c.0 d.0 h c.1 d.1, d.2)

module _ (n : Names) (apart : bytes_eq n.first n.second ≡ false) (back : bytes_eq n.second n.first ≡ false) (r s : Schema) where
  alone_written : (o : Option (List ℕ)) (u : Meaning) (t i : Tree) → IsAlone o u → alone_writes o ≡ Ok t → value_image t ≡ Some i → valid (one_of (schema (with_field n.first r) (schema (with_field n.second s) (alone_schemas o)))) i ≡ true
  alone_written (Some k) nothing t i h p e =
      let c : node.text k ≡ t = cc in
      let d : node.text k ≡ i = cc (ap value_image c ∙ e) in
      rw (← d) (constant_third n.first n.second apart back r s k)
  alone_written None u t i h p e = absurd h
  alone_written (Some k) _ t i h p e = absurd h

  module _ (P Q : Meaning → Type 0) (w z : Writes) (b : Bool) (one : WritesValid P w r b) (two : WritesValid Q z s b) where
    pub tagged_written : WritesValid (IsTagged n P Q) (tagged_writes n w z) (variants n r s) b
    tagged_written (case zero v) t i h p e =
        let c = case_written n.first P w r b one v t i h p e in
        rw (c.2) (first_tagged n.first n.second apart back r s (alone_schemas n.alone) c.0 c.1 (alone_takes_no_map n.alone n.first c.0))
    tagged_written (case (suc zero) v) t i h p e =
        let c = case_written n.second Q z s b two v t i h p e in
        rw (c.2) (second_tagged n.first n.second apart back r s (alone_schemas n.alone) c.0 c.1 (alone_takes_no_map n.alone n.second c.0))
    tagged_written (case (suc (suc zero)) v) t i h p e = alone_written n.alone v t i h p e
    tagged_written (case (suc (suc (suc k))) v) t i h p e = absurd h
    tagged_written _ t i h p e = absurd h

-- ---- results, and the ends of ranges

module _ {P Q : Meaning → Type 0} {w z : Writes} {x y : Form} {r s : Schema} {a c : Type 0} where
  pub result_fits : FitsSchema P w x r a → FitsSchema Q z y s c → FitsSchema (IsResultOf P Q) (tagged_writes result_names w z) (expr.tagged (form x (form y no_forms)) false) (variants result_names r s) (a × c)
  result_fits one two =
      record {
        fits = λ u b d v t i h p e.
            let sound = (sound-tagged (form x (form y no_forms)) false (at_json b) d).1 in
            tagged_written result_names refl refl r s P Q w z b (one.fits u.0 b sound.0) (two.fits u.1 b sound.1.0) v t i (result-tagged P Q v h) p e;
      }

module _ {P : Meaning → Type 0} {w : Writes} {x : Form} {s : Schema} {a : Type 0} where
  pub bound_fits : FitsSchema P w x s a → FitsSchema (IsBoundOf P) (tagged_writes bound_names w w) (expr.tagged (form x (form x no_forms)) true) (variants bound_names s s) (a × a)
  bound_fits part =
      record {
        fits = λ u b d v t i h p e.
            let sound = (sound-tagged (form x (form x no_forms)) true (at_json b) d).1 in
            tagged_written bound_names refl refl s s P P w w b (part.fits u.0 b sound.0) (part.fits u.1 b sound.1.0) v t i (bound-tagged P v h) p e;
      }
