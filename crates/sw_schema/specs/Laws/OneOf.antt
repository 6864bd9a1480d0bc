-- When exactly one of several schemas takes a tree: by kinds, or by a required field.
use Rattle.std.specs.Prelude.{bytes_eq, ◌≡◌, ℕ, ℤ, Bool, true, false, List, Option}
use Rattle.std.proofs.Common.{refl}
use Rattle.sw_tree.specs.Tree.{Tree, no_entries, entry}
use Rattle.sw_tree.specs.Tree as node
use Rattle.sw_schema.specs.declared.pattern.Pattern.{Pattern}
use Rattle.sw_schema.specs.Laws.SameTree.{bytes_eq-self}
use Rattle.sw_schema.specs.Schema.{Schema, Schemas, number, text, constant, fields, one_of, schema, no_schemas, field, no_fields}
use Rattle.sw_schema.specs.Valid.{valid, count_valid}

-- none of these is valid
abbrev pub NoneValid : Schemas → Tree → Type 0
NoneValid no_schemas t = Unit {0}
NoneValid (schema s ss) t = (valid s t ≡ false) × NoneValid ss t

none_counted : (ss : Schemas) (t : Tree) → NoneValid ss t → count_valid ss t ≡ 0
none_counted no_schemas t h = refl
none_counted (schema s ss) t h = rw (h.0, none_counted ss t h.1) refl

-- the first is valid, and no other
pub one_here : (s : Schema) (ss : Schemas) (t : Tree) → valid s t ≡ true → NoneValid ss t → valid (one_of (schema s ss)) t ≡ true
one_here s ss t h none = rw (h, none_counted ss t none) refl

-- the first is not, and exactly one of the others is
pub one_later : (s : Schema) (ss : Schemas) (t : Tree) → valid s t ≡ false → valid (one_of ss) t ≡ true → valid (one_of (schema s ss)) t ≡ true
one_later s ss t h one = rw h one

-- ---- by kinds: a number or a text

pub one_number : (low : Option ℤ) (a : Bool) (p : Option Pattern) (b c : Bool) (n : ℤ) → valid (number low a) (node.int n) ≡ true → valid (one_of (schema (number low a) (schema (text p b c) no_schemas))) (node.int n) ≡ true
one_number low a p b c n h = one_here (number low a) (schema (text p b c) no_schemas) (node.int n) h (refl, tt)

pub one_text : (low : Option ℤ) (a : Bool) (p : Option Pattern) (b c : Bool) (s : List ℕ) → valid (text p b c) (node.text s) ≡ true → valid (one_of (schema (number low a) (schema (text p b c) no_schemas))) (node.text s) ≡ true
one_text low a p b c s h = one_later (number low a) (schema (text p b c) no_schemas) (node.text s) refl (one_here (text p b c) no_schemas (node.text s) h tt)

-- ---- by required fields: a map of one entry

abbrev pub tagged : List ℕ → Tree → Tree
tagged name v = node.map (entry (node.text name) v no_entries)

-- maps in which that field must be
abbrev pub with_field : List ℕ → Schema → Schema
with_field name s = fields (field name s true no_fields)

pub own_field : (name : List ℕ) (s : Schema) (v : Tree) → valid s v ≡ true → valid (with_field name s) (tagged name v) ≡ true
own_field name s v h = rw (bytes_eq-self name, h) refl

pub other_field : (other name : List ℕ) (s : Schema) (v : Tree) → bytes_eq other name ≡ false → valid (with_field other s) (tagged name v) ≡ false
other_field other name s v h = rw h refl

module _ (first second : List ℕ) (apart : bytes_eq first second ≡ false) (back : bytes_eq second first ≡ false) (r s : Schema) where
  abbrev pub either : Schemas → Schemas
  either ss = schema (with_field first r) (schema (with_field second s) ss)

  pub first_tagged : (ss : Schemas) (v : Tree) → valid r v ≡ true → NoneValid ss (tagged first v) → valid (one_of (either ss)) (tagged first v) ≡ true
  first_tagged ss v h none = one_here (with_field first r) (schema (with_field second s) ss) (tagged first v) (own_field first r v h) (other_field second first s v back, none)

  pub second_tagged : (ss : Schemas) (v : Tree) → valid s v ≡ true → NoneValid ss (tagged second v) → valid (one_of (either ss)) (tagged second v) ≡ true
  second_tagged ss v h none =
      one_later (with_field first r) (schema (with_field second s) ss) (tagged second v) (other_field first second r v apart) (one_here (with_field second s) ss (tagged second v) (own_field second s v h) none)

  -- a text is neither, and so it may be a third
  pub constant_third : (name : List ℕ) → valid (one_of (either (schema (constant name) no_schemas))) (node.text name) ≡ true
  constant_third name =
      let ss = schema (constant name) no_schemas in
      one_later (with_field first r) (schema (with_field second s) ss) (node.text name) refl
      (one_later (with_field second s) ss (node.text name) refl (one_here (constant name) no_schemas (node.text name) (bytes_eq-self name) tt))
