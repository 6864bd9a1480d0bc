-- Settings: a record of a name, of ids, of limits, whose absence is none, and of labels.
use Rattle.std.specs.Prelude.{ℕ, List, [], ◌∷◌, codes, true, false}
use Rattle.sw_tree.specs.Meaning.{case, nothing}
use Rattle.sw_core.specs.Fields.{Field, required, optional}
use Rattle.sw_core.specs.Parts.{Reading}
use Rattle.sw_schema.specs.Definition.{Definition}
use Rattle.sw_schema.specs.Schema.{fields, field, no_fields}

abbrev pub settings_names : List (List ℕ)
settings_names = codes "name" ∷ codes "ids" ∷ codes "limits" ∷ codes "labels" ∷ []

abbrev pub settings_fields : Reading → Reading → Reading → Reading → List Field
settings_fields name ids limits labels = required (codes "name") name ∷ required (codes "ids") ids ∷ optional (codes "limits") limits (case 0 nothing) ∷ required (codes "labels") labels ∷ []

-- what settings publish: a map of these fields, of which limits alone may be missing
abbrev pub settings_definition : Definition → Definition → Definition → Definition → Definition
settings_definition name ids limits labels =
    record {
      schema = fields (field (codes "name") name.schema true (field (codes "ids") ids.schema true (field (codes "limits") limits.schema false (field (codes "labels") labels.schema true no_fields))));
      name = codes "Settings";
      id = codes "Settings";
      inlined = false;
    }
