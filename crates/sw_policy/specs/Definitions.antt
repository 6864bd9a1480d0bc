-- What choices publish, from what their options or their part publish: the schema, its name and id, and whether it stands inline.
use Rattle.std.specs.Prelude.{ℕ, Bool, true, false, List, [], ◌∷◌, ◌++◌, map as list_map, None, codes, if◌then◌else◌}
use Rattle.sw_schema.specs.Definition.{Definition}
use Rattle.sw_schema.specs.Schema.{Schema, array, any_of, write_only, schemas, schema, no_schemas}

-- ---- the first of several options

-- the first option's schema, which is written, and each other's, which is marked
abbrev pub option_schemas : List Definition → List Schema
option_schemas [] = []
option_schemas (x ∷ xs) = x.schema ∷ list_map (λ (y : Definition). write_only y.schema) xs

-- the names in order, with nothing between them
abbrev pub side_by_side : List (List ℕ) → List ℕ
side_by_side [] = []
side_by_side (x ∷ []) = x
side_by_side (x ∷ y ∷ xs) = x ++ side_by_side (y ∷ xs)

abbrev pub pick_definition : List Definition → Definition
pick_definition xs =
    record {
      schema = any_of (schemas (option_schemas xs));
      name = codes "PickFirst(" ++ side_by_side (list_map (λ (x : Definition). x.name) xs) ++ codes ")";
      id = codes "serde_with::PickFirst(" ++ side_by_side (list_map (λ (x : Definition). x.id) xs) ++ codes ")";
      inlined = false;
    }

-- ---- one part or a list of parts

-- the part's schema, which is marked where a list is always written
abbrev pub one_schema : Bool → Schema → Schema
one_schema alone s = if alone then s else write_only s

-- it or an array of the part, in a set without items that are the same
abbrev pub one_or_many_schema : Bool → Bool → Schema → Schema
one_or_many_schema alone unique s = any_of (schema (one_schema alone s) (schema (array s None None unique) no_schemas))

-- by the preference, which each spelling names in its own way
abbrev pub one_or_many_name : Bool → List ℕ → List ℕ
one_or_many_name true x = codes "OneOrMany(" ++ x ++ codes ",PreferOne)"
one_or_many_name false x = codes "OneOrMany<" ++ x ++ codes ", PreferMany>"

abbrev pub one_or_many_definition : Bool → Bool → Definition → Definition
one_or_many_definition alone unique x =
    record {
      schema = one_or_many_schema alone unique x.schema;
      name = one_or_many_name alone x.name;
      id = codes "serde_with::" ++ one_or_many_name alone x.id;
      inlined = false;
    }
