-- A tuple is valid for the tuple of its parts' schemas.
use Rattle.std.specs.Prelude.{◌≡◌, Bool, true, List, [], ◌∷◌, Option, Some, None, Ok}
use Rattle.std.proofs.Common.{refl, ap, sym, subst, ◌∙◌}
use Rattle.sw_tree.specs.Image.{value_image}
use Rattle.sw_tree.specs.Laws.Meaning.{meanings-parts}
use Rattle.sw_tree.specs.Meaning.{Meaning, list, meanings, parts}
use Rattle.sw_tree.specs.Meant.{AreOf, IsRowOf, IsPairOf}
use Rattle.sw_tree.specs.Steps.{bind}
use Rattle.sw_tree.specs.Laws.Steps.{bind_ok, option_cons, option_traverse}
use Rattle.sw_tree.specs.Tree.{Tree, trees}
use Rattle.sw_tree.specs.Laws.Tree.{items-trees}
use Rattle.sw_tree.specs.Tree as node
use Rattle.sw_tree.specs.declared.mode.WireKind.TheVariants.{Json}
use Rattle.sw_tree.specs.declared.mode.Place.TheVariants.{Value}
use Rattle.sw_check.specs.Form.{Form, Forms, no_forms, form, tuple as tuple_form}
use Rattle.sw_check.specs.Laws.Sound.{AllSound}
use Rattle.sw_check.specs.Laws.SoundForms.{sound-tuple}
use Rattle.sw_elem.specs.Equations.{Writes}
use Rattle.sw_core.specs.Parts.{row_writes}
use Rattle.sw_core.specs.Tuple.{tuple_writes}
use Rattle.sw_core.specs.Laws.Images.{list-image, mapped_some}
use Rattle.sw_core.specs.Laws.Tuple.{pair-row}
use Rattle.sw_core.specs.Laws.Within.{within_ok}
use Rattle.sw_schema.specs.JsonSchema.{at_json, WritesValid}
use Rattle.sw_schema.specs.Schema.{Schema, Schemas, tuple, no_schemas, schema}
use Rattle.sw_schema.specs.Valid.{valid, valid_placed, first_passes, is_none_left}
use Rattle.sw_schema.specs.Laws.Leaves.{both_true}
use Rattle.sw_schemas.specs.FitsSchema.{FitsSchema}

-- a part with its schema, and its law
pub record Fit : Type 1 where
  pub is : Meaning → Type 0
  pub writes : Writes
  pub expr : Form
  pub schema : Schema
  pub assumes : Type 0
  pub law : FitsSchema is writes expr schema assumes

abbrev pub fit : {P : Meaning → Type 0} {w : Writes} {x : Form} {s : Schema} {a : Type 0} → FitsSchema P w x s a → Fit
fit {P} {w} {x} {s} {a} h = record { is = P; writes = w; expr = x; schema = s; assumes = a; law = h }

-- what each of them names
abbrev pub are_fit : List Fit → List (Meaning → Type 0)
are_fit [] = []
are_fit (x ∷ xs) = x.is ∷ are_fit xs

abbrev pub writes_fit : List Fit → List Writes
writes_fit [] = []
writes_fit (x ∷ xs) = x.writes ∷ writes_fit xs

abbrev pub exprs_fit : List Fit → Forms
exprs_fit [] = no_forms
exprs_fit (x ∷ xs) = form x.expr (exprs_fit xs)

abbrev pub schemas_fit : List Fit → Schemas
schemas_fit [] = no_schemas
schemas_fit (x ∷ xs) = schema x.schema (schemas_fit xs)

abbrev pub AllAssumed : List Fit → Type 0
AllAssumed [] = Unit {0}
AllAssumed (x ∷ xs) = x.assumes × AllAssumed xs

-- the first item is valid, and so are the others
first_valid : (f : Tree → Bool) (g : List Tree → Bool) (o : Option Tree) (r : Option (List Tree)) (is : List Tree) → option_cons o r ≡ Some is → ((z : Tree) → o ≡ Some z → f z ≡ true) → ((us : List Tree) → r ≡ Some us → g us ≡ true) → first_passes f g is ≡ true
first_valid f g (Some z) (Some us) is p one later = let k : z ∷ us ≡ is = cc in rw (← k) (both_true (f z) (g us) (one z refl) (later us refl))
first_valid f g (Some z) None is p one later = absurd (cc)
first_valid f g None r is p one later = absurd (cc)

placed_tuple : (ss : Schemas) (i : Tree) (is : List Tree) → i ≡ node.list (trees is) → valid_placed ss is ≡ true → valid (tuple ss) i ≡ true
placed_tuple ss i is e h = rw (e, items-trees is) h

module _ (b : Bool) where
  -- each item of the image is valid by its place, and there are as many
  row_valid : (xs : List Fit) → AllAssumed xs → AllSound (exprs_fit xs) (at_json b) → (vs : List Meaning) (ts is : List Tree) → AreOf (are_fit xs) (meanings vs) → row_writes (writes_fit xs) (at_json b) vs ≡ Ok ts → option_traverse value_image ts ≡ Some is → valid_placed (schemas_fit xs) is ≡ true
  row_valid [] a s [] ts is h p q =
      let e : [] ≡ ts = cc in
      let f : [] ≡ is = cc (ap (option_traverse value_image) e ∙ q) in
      ap is_none_left (sym f)
  row_valid [] a s (v ∷ vs) ts is h p q = absurd h
  row_valid (x ∷ xs) a s [] ts is h p q = absurd h
  row_valid (x ∷ xs) a s (v ∷ vs) ts is h p q =
      let c = bind_ok (x.writes (at_json b) v) (λ t. bind (row_writes (writes_fit xs) (at_json b) vs) (λ us. Ok (t ∷ us))) ts p in
      let d = bind_ok (row_writes (writes_fit xs) (at_json b) vs) (λ us. Ok (c.0 ∷ us)) ts c.2 in
      let e : c.0 ∷ d.0 ≡ ts = cc d.2 in
      first_valid (valid x.schema) (valid_placed (schemas_fit xs)) (value_image c.0) (option_traverse value_image d.0) is (ap (option_traverse value_image) e ∙ q)
      (λ z k. x.law.fits a.0 b s.0 v c.0 z h.0 c.1 k)
      (λ us k. row_valid xs a.1 s.1 vs d.0 us h.1 d.1 k)

  row_written : (xs : List Fit) → AllAssumed xs → AllSound (exprs_fit xs) (at_json b) → WritesValid (IsRowOf (are_fit xs)) (tuple_writes (writes_fit xs)) (tuple (schemas_fit xs)) b
  row_written xs a s (list vs) t i h p e =
      let c = within_ok (λ ts. node.list (trees ts)) (row_writes (writes_fit xs) (at_json b) (parts vs)) t p in
      let d = mapped_some (λ is. node.list (trees is)) (option_traverse value_image c.0) i (sym (list-image Json Value t c.0 refl c.2) ∙ e) in
      placed_tuple (schemas_fit xs) i d.0 d.2 (row_valid xs a s (parts vs) c.0 d.0 (subst (AreOf (are_fit xs)) (sym (meanings-parts vs)) h) c.1 d.1)
  row_written xs a s _ t i h p e = absurd h

pub tuple_fits : (xs : List Fit) → FitsSchema (IsRowOf (are_fit xs)) (tuple_writes (writes_fit xs)) (tuple_form (exprs_fit xs)) (tuple (schemas_fit xs)) (AllAssumed xs)
tuple_fits xs = record { fits = λ a b s. row_written b xs a ((sound-tuple (exprs_fit xs) (at_json b) s).1) }

-- two parts, which mean a pair
module _ (x y : Fit) where
  abbrev two : List Fit
  two = x ∷ y ∷ []

  pub pair_fits : FitsSchema (IsPairOf x.is y.is) (tuple_writes (writes_fit two)) (tuple_form (exprs_fit two)) (tuple (schemas_fit two)) (AllAssumed two)
  pair_fits = record { fits = λ a b s v t i h. (tuple_fits two).fits a b s v t i (pair-row x.is y.is v h) }
