-- What each adapter publishes, from what its parts publish: the schema, its name and id, and whether it stands inline.
use Rattle.std.specs.Prelude.{ℕ, true, false, List, [], ◌∷◌, ◌++◌, map as list_map, Some, None, codes}
use Rattle.std.specs.Fmt.{decimal}
use Rattle.sw_schema.specs.Definition.{Definition}
use Rattle.sw_schema.specs.Schema.{Schema, Fields, null, array, tuple, object, fields, any_of, one_of, constant, schemas, schema, no_schemas, field, no_fields}

-- a schema that stands inline, named by that word and by its part
abbrev pub prefixed : List ℕ → Definition → Schema → Definition
prefixed word x s = record { schema = s; name = word ++ x.name; id = word ++ x.id; inlined = true }

-- ---- lists, arrays and sets

abbrev pub list_definition : Definition → Definition
list_definition x = prefixed (codes "Array_of_") x (array x.schema None None false)

abbrev pub set_definition : Definition → Definition
set_definition x = prefixed (codes "Set_of_") x (array x.schema None None true)

-- of so many items
abbrev pub sized : ℕ → List ℕ → List ℕ
sized n x = codes "[" ++ x ++ codes "; " ++ decimal n ++ codes "]"

abbrev pub array_definition : ℕ → Definition → Definition
array_definition n x = record { schema = array x.schema (Some n) (Some n) false; name = sized n x.name; id = sized n x.id; inlined = true }

-- ---- maps by their values, and options

abbrev pub map_definition : Definition → Definition
map_definition x = prefixed (codes "Map_of_") x (object x.schema)

abbrev pub or_null : Schema → Schema
or_null s = any_of (schema s (schema null no_schemas))

abbrev pub option_definition : Definition → Definition
option_definition x = prefixed (codes "Nullable_") x (or_null x.schema)

-- ---- tuples

-- the names in order, parted by `_and_`
abbrev pub parted : List (List ℕ) → List ℕ
parted [] = []
parted (x ∷ []) = x
parted (x ∷ y ∷ xs) = x ++ codes "_and_" ++ parted (y ∷ xs)

abbrev pub tuple_definition : List Definition → Definition
tuple_definition xs =
    record {
      schema = tuple (schemas (list_map (λ (x : Definition). x.schema) xs));
      name = codes "Tuple_of_" ++ parted (list_map (λ (x : Definition). x.name) xs);
      id = codes "Tuple_of_" ++ parted (list_map (λ (x : Definition). x.id) xs);
      inlined = true;
    }

-- a map as the list of its entries
abbrev pub entry_list_definition : Definition → Definition → Definition
entry_list_definition k v = list_definition (tuple_definition (k ∷ v ∷ []))

-- ---- ranges: a field for each of these names, all required

abbrev pub bound_fields : List (List ℕ) → Schema → Fields
bound_fields [] s = no_fields
bound_fields (n ∷ ns) s = field n s true (bound_fields ns s)

abbrev pub closed_range_definition : Definition → Definition
closed_range_definition x = prefixed (codes "Range_of_") x (fields (bound_fields (codes "start" ∷ codes "end" ∷ []) x.schema))

abbrev pub range_from_definition : Definition → Definition
range_from_definition x = prefixed (codes "RangeFrom_of_") x (fields (bound_fields (codes "start" ∷ []) x.schema))

abbrev pub range_to_definition : Definition → Definition
range_to_definition x = prefixed (codes "RangeTo_of_") x (fields (bound_fields (codes "end" ∷ []) x.schema))

-- ---- one of two variants, each a map with the one field that names it

abbrev pub variant : List ℕ → Schema → Schema
variant name s = fields (field name s true no_fields)

abbrev pub bound_definition : Definition → Definition
bound_definition x = prefixed (codes "Bound_of_") x (one_of (schema (variant (codes "Included") x.schema) (schema (variant (codes "Excluded") x.schema) (schema (constant (codes "Unbounded")) no_schemas))))

abbrev pub result_definition : Definition → Definition → Definition
result_definition x y =
    record {
      schema = one_of (schema (variant (codes "Ok") x.schema) (schema (variant (codes "Err") y.schema) no_schemas));
      name = codes "Result_of_" ++ x.name ++ codes "_or_" ++ y.name;
      id = codes "Result_of_" ++ x.id ++ codes "_or_" ++ y.id;
      inlined = true;
    }
