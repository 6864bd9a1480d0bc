-- The JSON tree of a schema: the form's keys in order, absent parts and marks that aren't set left out.
use Rattle.std.specs.Prelude.{ℕ, suc, ℤ, pos, Bool, true, false, List, [], ◌∷◌, ◌++◌, Option, Some, None, codes, if◌then◌else◌}
use Rattle.sw_tree.specs.Tree.{Tree, trees, entries}
use Rattle.sw_tree.specs.Tree as node
use Rattle.sw_schema.specs.declared.pattern.Pattern.{Pattern}
use Rattle.sw_schema.specs.declared.pattern.Pattern.TheVariants as pattern
use Rattle.sw_schema.specs.Schema.{Schema, Schemas, Fields, any, null, boolean, integer, number, text, constant, array, tuple, object, fields, any_of, one_of, write_only, no_schemas, schema, no_fields, field}

-- the regular expression of a pattern
abbrev pub pattern_text : Pattern → List ℕ
pattern_text pattern.Hex = codes "^(?:[0-9A-Fa-f]{2})*$"
pattern_text pattern.Time = codes "^[0-9]+(\\.[0-9]+)?([eE][+-]?[0-9]+)?$"
pattern_text pattern.SignedTime = codes "^-?[0-9]+(\\.[0-9]+)?([eE][+-]?[0-9]+)?$"

-- ---- entries

abbrev pub keyed : List ℕ → Tree → Tree × Tree
keyed key t = (node.text key, t)

abbrev pub kind_entry : List ℕ → Tree × Tree
kind_entry kind = keyed (codes "type") (node.text kind)

abbrev pub bound_entry : List ℕ → Option ℤ → List (Tree × Tree)
bound_entry key None = []
bound_entry key (Some n) = keyed key (node.int n) ∷ []

abbrev pub length_entry : List ℕ → Option ℕ → List (Tree × Tree)
length_entry key None = []
length_entry key (Some n) = keyed key (node.int (pos n)) ∷ []

abbrev pub mark_entry : List ℕ → Bool → List (Tree × Tree)
mark_entry key false = []
mark_entry key true = keyed key (node.truth true) ∷ []

abbrev pub pattern_entry : Option Pattern → List (Tree × Tree)
pattern_entry None = []
pattern_entry (Some p) = keyed (codes "pattern") (node.text (pattern_text p)) ∷ []

abbrev pub encoding_entry : Bool → List (Tree × Tree)
encoding_entry false = []
encoding_entry true = keyed (codes "contentEncoding") (node.text (codes "base64")) ∷ []

-- ---- each form

abbrev pub list_of : List Tree → Tree
list_of ts = node.list (trees ts)

abbrev pub map_of : List (Tree × Tree) → Tree
map_of es = node.map (entries es)

-- the names of the required fields
abbrev pub required_names : Fields → List Tree
required_names no_fields = []
required_names (field name s required fs) = if required then node.text name ∷ required_names fs else required_names fs

abbrev pub count_of : Schemas → ℕ
count_of no_schemas = 0
count_of (schema s ss) = suc (count_of ss)

abbrev mutual
  pub schema_tree : Schema → Tree
  schema_tree any = node.truth true
  schema_tree null = map_of (kind_entry (codes "null") ∷ [])
  schema_tree boolean = map_of (kind_entry (codes "boolean") ∷ [])
  schema_tree (integer low high) = map_of (kind_entry (codes "integer") ∷ bound_entry (codes "minimum") low ++ bound_entry (codes "maximum") high)
  schema_tree (number low w) = map_of (kind_entry (codes "number") ∷ bound_entry (codes "minimum") low ++ mark_entry (codes "writeOnly") w)
  schema_tree (text p b w) = map_of (kind_entry (codes "string") ∷ pattern_entry p ++ encoding_entry b ++ mark_entry (codes "writeOnly") w)
  schema_tree (constant name) = map_of (kind_entry (codes "string") ∷ keyed (codes "const") (node.text name) ∷ [])
  schema_tree (array s least most unique) =
      map_of (kind_entry (codes "array") ∷ keyed (codes "items") (schema_tree s) ∷ length_entry (codes "minItems") least ++ length_entry (codes "maxItems") most ++ mark_entry (codes "uniqueItems") unique)
  schema_tree (tuple ss) = map_of (kind_entry (codes "array") ∷ keyed (codes "prefixItems") (list_of (schema_trees ss)) ∷ keyed (codes "minItems") (node.int (pos (count_of ss))) ∷ keyed (codes "maxItems") (node.int (pos (count_of ss))) ∷ [])
  schema_tree (object s) = map_of (kind_entry (codes "object") ∷ keyed (codes "additionalProperties") (schema_tree s) ∷ [])
  schema_tree (fields fs) = map_of (kind_entry (codes "object") ∷ keyed (codes "properties") (map_of (properties fs)) ∷ keyed (codes "required") (list_of (required_names fs)) ∷ [])
  schema_tree (any_of ss) = map_of (keyed (codes "anyOf") (list_of (schema_trees ss)) ∷ [])
  schema_tree (one_of ss) = map_of (keyed (codes "oneOf") (list_of (schema_trees ss)) ∷ [])
  schema_tree (write_only s) = map_of (keyed (codes "writeOnly") (node.truth true) ∷ keyed (codes "allOf") (list_of (schema_tree s ∷ [])) ∷ [])

  pub schema_trees : Schemas → List Tree
  schema_trees no_schemas = []
  schema_trees (schema s ss) = schema_tree s ∷ schema_trees ss

  -- each field's name, and the tree of its schema
  pub properties : Fields → List (Tree × Tree)
  properties no_fields = []
  properties (field name s required fs) = keyed name (schema_tree s) ∷ properties fs
