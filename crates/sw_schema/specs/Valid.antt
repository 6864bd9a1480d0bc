-- Which trees are valid for a schema, by JSON Schema 2020-12; a byte string is valid for no form that names a kind.
use Rattle.std.specs.Prelude.{bytes_eq, ℕ, suc, ℤ, Bool, true, false, not, ◌&&◌, ◌||◌, nat_le, nat_eq, int_le, List, [], ◌∷◌, length, Option, Some, None}
use Rattle.sw_tree.specs.Tree.{Tree, items, pairs}
use Rattle.sw_tree.specs.Tree as node
use Rattle.sw_schema.specs.declared.pattern.Pattern.{Pattern}
use Rattle.sw_schema.specs.Schema.{Schema, Schemas, Fields, any, null, boolean, integer, number, text, constant, array, tuple, object, fields, any_of, one_of, write_only, no_schemas, schema, no_fields, field}
use Rattle.sw_schema.specs.Patterns.{matches}
use Rattle.sw_schema.specs.SameTree.{same_tree}

-- ---- leaves

abbrev pub is_null : Tree → Bool
is_null node.null = true
is_null _ = false

abbrev pub is_truth : Tree → Bool
is_truth (node.truth b) = true
is_truth _ = false

abbrev pub at_least : Option ℤ → ℤ → Bool
at_least None n = true
at_least (Some low) n = int_le low n

abbrev pub at_most : Option ℤ → ℤ → Bool
at_most None n = true
at_most (Some high) n = int_le n high

abbrev pub is_within : Option ℤ → Option ℤ → Tree → Bool
is_within low high (node.int n) = at_least low n && at_most high n
is_within low high _ = false

abbrev pub fits : Option Pattern → List ℕ → Bool
fits None s = true
fits (Some p) s = matches p s

abbrev pub is_fitting : Option Pattern → Tree → Bool
is_fitting p (node.text s) = fits p s
is_fitting p _ = false

abbrev pub is_constant : List ℕ → Tree → Bool
is_constant name (node.text s) = bytes_eq name s
is_constant name _ = false

-- ---- lists

-- each of these passes the test
abbrev pub all_pass : {A : Type 0} → (A → Bool) → List A → Bool
all_pass f [] = true
all_pass f (x ∷ xs) = f x && all_pass f xs

abbrev pub no_fewer : Option ℕ → ℕ → Bool
no_fewer None n = true
no_fewer (Some least) n = nat_le least n

abbrev pub no_more : Option ℕ → ℕ → Bool
no_more None n = true
no_more (Some most) n = nat_le n most

-- none of these is that tree
abbrev pub is_new : Tree → List Tree → Bool
is_new t [] = true
is_new t (u ∷ us) = not (same_tree t u) && is_new t us

-- the trees are pairwise different
abbrev pub are_different : List Tree → Bool
are_different [] = true
are_different (t ∷ ts) = is_new t ts && are_different ts

abbrev pub if_unique : Bool → List Tree → Bool
if_unique true ts = are_different ts
if_unique false ts = true

abbrev pub is_array : (Tree → Bool) → Option ℕ → Option ℕ → Bool → Tree → Bool
is_array f least most unique (node.list ts) =
    all_pass f (items ts) && (no_fewer least (length (items ts)) && (no_more most (length (items ts)) && if_unique unique (items ts)))
is_array f least most unique _ = false

-- it is a list whose items pass
abbrev pub passes_items : (List Tree → Bool) → Tree → Bool
passes_items f (node.list ts) = f (items ts)
passes_items f _ = false

-- the first passes, and so do the others
abbrev pub first_passes : (Tree → Bool) → (List Tree → Bool) → List Tree → Bool
first_passes f g [] = false
first_passes f g (t ∷ ts) = f t && g ts

abbrev pub is_none_left : List Tree → Bool
is_none_left [] = true
is_none_left (t ∷ ts) = false

-- ---- maps

-- it is a map whose entries pass
abbrev pub passes_entries : (List (Tree × Tree) → Bool) → Tree → Bool
passes_entries f (node.map es) = f (pairs es)
passes_entries f _ = false

abbrev pub is_object : (Tree → Bool) → Tree → Bool
is_object f (node.map es) = all_pass (λ (e : Tree × Tree). f e.1) (pairs es)
is_object f _ = false

-- the value of each entry of that name passes
abbrev pub named_pass : List ℕ → (Tree → Bool) → List (Tree × Tree) → Bool
named_pass name f es = all_pass (λ (e : Tree × Tree). not (is_constant name e.0) || f e.1) es

-- an entry has that name
abbrev pub has_name : List ℕ → List (Tree × Tree) → Bool
has_name name [] = false
has_name name (e ∷ es) = is_constant name e.0 || has_name name es

abbrev pub count_if : Bool → ℕ → ℕ
count_if true n = suc n
count_if false n = n

-- ---- each form

abbrev mutual
  pub valid : Schema → Tree → Bool
  valid any t = true
  valid null t = is_null t
  valid boolean t = is_truth t
  valid (integer low high) t = is_within low high t
  valid (number low w) t = is_within low None t
  valid (text p b w) t = is_fitting p t
  valid (constant name) t = is_constant name t
  valid (array s least most unique) t = is_array (valid s) least most unique t
  valid (tuple ss) t = passes_items (valid_placed ss) t
  valid (object s) t = is_object (valid s) t
  valid (fields fs) t = passes_entries (valid_fields fs) t
  valid (any_of ss) t = valid_any ss t
  valid (one_of ss) t = nat_eq (count_valid ss t) 1
  valid (write_only s) t = valid s t

  -- each item is valid by its place, and there are as many
  pub valid_placed : Schemas → List Tree → Bool
  valid_placed no_schemas ts = is_none_left ts
  valid_placed (schema s ss) ts = first_passes (valid s) (valid_placed ss) ts

  -- at least one of these
  pub valid_any : Schemas → Tree → Bool
  valid_any no_schemas t = false
  valid_any (schema s ss) t = valid s t || valid_any ss t

  -- how many of these
  pub count_valid : Schemas → Tree → ℕ
  count_valid no_schemas t = 0
  count_valid (schema s ss) t = count_if (valid s t) (count_valid ss t)

  -- each entry of a listed name is valid for each field of that name, and each required name is there
  pub valid_fields : Fields → List (Tree × Tree) → Bool
  valid_fields no_fields es = true
  valid_fields (field name s required fs) es = named_pass name (valid s) es && ((not required || has_name name es) && valid_fields fs es)
