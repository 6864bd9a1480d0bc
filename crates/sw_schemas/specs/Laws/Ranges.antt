-- A range is written as the record of its bounds.
use Rattle.std.specs.Prelude.{[], ◌∷◌, true, codes}
use Rattle.std.proofs.Common.{refl}
use Rattle.sw_tree.specs.Meaning.{Meaning}
use Rattle.sw_tree.specs.Meant.{IsRowOf, IsTruth}
use Rattle.sw_check.specs.Form.{Form, form, no_forms, fields}
use Rattle.sw_check.specs.declared.grade.Grade.TheVariants.{Exact, Rounded}
use Rattle.sw_elem.specs.Equations.{Writes}
use Rattle.sw_core.specs.Range.{range_names, both_bounds, inclusive_writes}
use Rattle.sw_core.specs.Record.{record_writes}
use Rattle.sw_core.specs.Laws.Range.{out}
use Rattle.sw_schema.specs.Schema.{Schema}
use Rattle.sw_schema.specs.Schema as schema
use Rattle.sw_schemas.specs.Definitions.{bound_fields}
use Rattle.sw_schemas.specs.FitsSchema.{FitsSchema}
use Rattle.sw_schemas.specs.Laws.Records.{required, record_fits}

module _ {P : Meaning → Type 0} {w : Writes} {x : Form} {s : Schema} {a : Type 0} (part : FitsSchema P w x s a) where
  pub closed_range_fits : FitsSchema (IsRowOf (P ∷ P ∷ [])) (record_writes range_names (w ∷ w ∷ [])) (fields (form x (form x no_forms)) true Exact) (schema.fields (bound_fields range_names s)) (a × (a × Unit {0}))
  closed_range_fits = record_fits (required (codes "start") part ∷ required (codes "end") part ∷ []) refl true Exact

  pub range_from_fits : FitsSchema (IsRowOf (P ∷ [])) (record_writes (codes "start" ∷ []) (w ∷ [])) (fields (form x no_forms) true Exact) (schema.fields (bound_fields (codes "start" ∷ []) s)) (a × Unit {0})
  range_from_fits = record_fits (required (codes "start") part ∷ []) refl true Exact

  pub range_to_fits : FitsSchema (IsRowOf (P ∷ [])) (record_writes (codes "end" ∷ []) (w ∷ [])) (fields (form x no_forms) true Exact) (schema.fields (bound_fields (codes "end" ∷ []) s)) (a × Unit {0})
  range_to_fits = record_fits (required (codes "end") part ∷ []) refl true Exact

  -- whether its walk has ended isn't written
  pub inclusive_fits : FitsSchema (IsRowOf (P ∷ P ∷ IsTruth ∷ [])) (inclusive_writes w) (fields (form x (form x no_forms)) true Rounded) (schema.fields (bound_fields range_names s)) (a × (a × Unit {0}))
  inclusive_fits =
      let both = record_fits (required (codes "start") part ∷ required (codes "end") part ∷ []) refl true Rounded in
      record { fits = λ y b c v t i h p e. both.fits y b c (both_bounds v) t i (out P v h) p e }
