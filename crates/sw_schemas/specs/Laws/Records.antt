-- A record of parts that fit their schemas is written as a map that is valid for their fields.
use Rattle.std.specs.Prelude.{◌≡◌, ℕ, Bool, true, false, List, [], ◌∷◌, Option, Some, None, Ok}
use Rattle.std.specs.Str.{bytes_eq}
use Rattle.std.proofs.Common.{refl, ap, sym, subst, ◌∙◌}
use Rattle.sw_tree.specs.Image.{value_image}
use Rattle.sw_tree.specs.Meaning.{Meaning, Meanings, list, meaning, no_meanings, parts}
use Rattle.sw_tree.specs.Meant.{AreOf, IsRowOf}
use Rattle.sw_tree.specs.Steps.{bind}
use Rattle.sw_tree.specs.Laws.Steps.{bind_ok, option_cons, option_traverse}
use Rattle.sw_tree.specs.Tree.{Tree, entries}
use Rattle.sw_tree.specs.Tree as node
use Rattle.sw_tree.specs.declared.mode.WireKind.TheVariants.{Json}
use Rattle.sw_tree.specs.declared.mode.Place.TheVariants.{Value}
use Rattle.sw_check.specs.Form.{Form, Forms, no_forms, form, fields}
use Rattle.sw_check.specs.Laws.Sound.{AllSound}
use Rattle.sw_check.specs.Laws.SoundForms.{sound-fields}
use Rattle.sw_check.specs.declared.grade.Grade.{Grade}
use Rattle.sw_elem.specs.Equations.{Writes}
use Rattle.sw_core.specs.Parts.{row_writes}
use Rattle.sw_core.specs.Record.{named, record_writes}
use Rattle.sw_core.specs.Laws.Fields.{is_new, are_names, first_name, new_behind, same_name}
use Rattle.sw_core.specs.Laws.Images.{both_images, entry_image, map-image, mapped_some}
use Rattle.sw_core.specs.Laws.Within.{within_ok}
use Rattle.sw_schema.specs.JsonSchema.{at_json, WritesValid}
use Rattle.sw_schema.specs.Schema.{Schema, Fields, no_fields, field}
use Rattle.sw_schema.specs.Schema as schema
use Rattle.sw_schema.specs.Valid.{valid}
use Rattle.sw_schema.specs.Laws.FieldsValid.{IsNewName, AreNewNames, AreValid, record_valid}
use Rattle.sw_schema.specs.Laws.FieldsValid as row
use Rattle.sw_schemas.specs.FitsSchema.{FitsSchema}

-- a field of a record, whose value fits the schema: its name, whether it must be there, and what its adapter names
pub record Fitted : Type 1 where
  pub name : List ℕ
  pub required : Bool
  pub is : Meaning → Type 0
  pub writes : Writes
  pub expr : Form
  pub shape : Schema
  pub assumes : Type 0
  pub law : FitsSchema is writes expr shape assumes

-- a field that must be there,
abbrev pub required : {P : Meaning → Type 0} {w : Writes} {x : Form} {s : Schema} {a : Type 0} → List ℕ → FitsSchema P w x s a → Fitted
required {P} {w} {x} {s} {a} n h = record { name = n; required = true; is = P; writes = w; expr = x; shape = s; assumes = a; law = h }

-- and one that need not be
abbrev pub optional : {P : Meaning → Type 0} {w : Writes} {x : Form} {s : Schema} {a : Type 0} → List ℕ → FitsSchema P w x s a → Fitted
optional {P} {w} {x} {s} {a} n h = record { name = n; required = false; is = P; writes = w; expr = x; shape = s; assumes = a; law = h }

-- ---- what each of them names

abbrev pub names_of : List Fitted → List (List ℕ)
names_of [] = []
names_of (x ∷ xs) = x.name ∷ names_of xs

abbrev pub are_of : List Fitted → List (Meaning → Type 0)
are_of [] = []
are_of (x ∷ xs) = x.is ∷ are_of xs

abbrev pub writes_of : List Fitted → List Writes
writes_of [] = []
writes_of (x ∷ xs) = x.writes ∷ writes_of xs

abbrev pub exprs_of : List Fitted → Forms
exprs_of [] = no_forms
exprs_of (x ∷ xs) = form x.expr (exprs_of xs)

abbrev pub fields_of : List Fitted → Fields
fields_of [] = no_fields
fields_of (x ∷ xs) = field x.name x.shape x.required (fields_of xs)

abbrev pub All : List Fitted → Type 0
All [] = Unit {0}
All (x ∷ xs) = x.assumes × All xs

-- ---- names

-- the name is another than each of those
new_name : (n : List ℕ) (xs : List Fitted) → is_new n (names_of xs) ≡ true → IsNewName n (fields_of xs)
new_name n [] h = tt
new_name n (x ∷ xs) h =
    let c = new_behind n x.name (names_of xs) h in
    (λ e. let same : bytes_eq x.name n ≡ true = subst (λ (k : List ℕ). bytes_eq k n ≡ true) e (same_name n) in cc, new_name n xs c.1)

new_names : (xs : List Fitted) → are_names (names_of xs) ≡ true → AreNewNames (fields_of xs)
new_names [] h = tt
new_names (x ∷ xs) h = let c = first_name x.name (names_of xs) h in (new_name x.name xs c.1, new_names xs c.2)

-- ---- entries

-- the entries are those of values that are valid by their fields
record AreValues (fs : Fields) (es : List (Tree × Tree)) : Type 0 where
  pub values : List (Option Tree)
  pub are : es ≡ row.named fs values
  pub each : AreValid fs values

next_valid : (x : Fitted) (fs : Fields) (o : Option Tree) (r : Option (List (Tree × Tree))) (is : List (Tree × Tree)) → ((z : Tree) → o ≡ Some z → valid x.shape z ≡ true) → ((us : List (Tree × Tree)) → r ≡ Some us → AreValues fs us) →
    option_cons (both_images (Some (node.text x.name)) o) r ≡ Some is → AreValues (field x.name x.shape x.required fs) is
next_valid x fs (Some z) (Some us) is one later e =
    let k : (node.text x.name, z) ∷ us ≡ is = cc in
    let l = later us refl in
    record { values = Some z ∷ l.values; are = sym k ∙ ap (λ (es : List (Tree × Tree)). (node.text x.name, z) ∷ es) l.are; each = (one z refl, l.each) }
next_valid x fs (Some z) None is one later e = absurd (cc)
next_valid x fs None r is one later e = absurd (cc)

module _ (b : Bool) where
  entries_valid : (xs : List Fitted) → All xs → AllSound (exprs_of xs) (at_json b) → (vs : Meanings) (ts : List Tree) (is : List (Tree × Tree)) → AreOf (are_of xs) vs → row_writes (writes_of xs) (at_json b) (parts vs) ≡ Ok ts →
      option_traverse (entry_image Json) (named (names_of xs) ts) ≡ Some is → AreValues (fields_of xs) is
  entries_valid [] a c no_meanings ts is h p e = let k : [] ≡ is = cc in record { values = []; are = sym k; each = tt }
  entries_valid [] a c (meaning v vs) ts is h p e = absurd h
  entries_valid (x ∷ xs) a c no_meanings ts is h p e = absurd h
  entries_valid (x ∷ xs) a c (meaning v vs) ts is h p e =
      let later = row_writes (writes_of xs) (at_json b) (parts vs) in
      let d = bind_ok (x.writes (at_json b) v) (λ t. bind later (λ us. Ok (t ∷ us))) ts p in
      let f = bind_ok later (λ us. Ok (d.0 ∷ us)) ts d.2 in
      let g : d.0 ∷ f.0 ≡ ts = cc f.2 in
      next_valid x (fields_of xs) (value_image d.0) (option_traverse (entry_image Json) (named (names_of xs) f.0)) is
      (λ z k. x.law.fits a.0 b c.0 v d.0 z h.0 d.1 k)
      (λ us k. entries_valid xs a.1 c.1 vs f.0 us h.1 f.1 k)
      (ap (λ (us : List Tree). option_traverse (entry_image Json) (named (x.name ∷ names_of xs) us)) g ∙ e)

  -- the map of them
  record_written : (xs : List Fitted) → are_names (names_of xs) ≡ true → All xs → AllSound (exprs_of xs) (at_json b) → WritesValid (IsRowOf (are_of xs)) (record_writes (names_of xs) (writes_of xs)) (schema.fields (fields_of xs)) b
  record_written xs names a c (list vs) t i h p e =
      let d = within_ok (λ ts. node.map (entries (named (names_of xs) ts))) (row_writes (writes_of xs) (at_json b) (parts vs)) t p in
      let f = mapped_some (λ is. node.map (entries is)) (option_traverse (entry_image Json) (named (names_of xs) d.0)) i (sym (map-image Json Value t (named (names_of xs) d.0) refl d.2) ∙ e) in
      let g = entries_valid xs a c vs d.0 f.0 h d.1 f.1 in
      rw (f.2, g.are) (record_valid (fields_of xs) g.values (new_names xs names) g.each)
  record_written xs names a c _ t i h p e = absurd h

-- of fields whose names are texts and pairwise different
pub record_fits : (xs : List Fitted) → are_names (names_of xs) ≡ true → (listed : Bool) (own : Grade) →
    FitsSchema (IsRowOf (are_of xs)) (record_writes (names_of xs) (writes_of xs)) (fields (exprs_of xs) listed own) (schema.fields (fields_of xs)) (All xs)
record_fits xs names listed own = record { fits = λ a b c. record_written b xs names a ((sound-fields (exprs_of xs) listed own (at_json b) c).1) }
