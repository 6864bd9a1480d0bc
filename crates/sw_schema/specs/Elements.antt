-- The schemas of the types that write themselves.
use Rattle.std.specs.Prelude.{ℕ, ℤ, false, List, Some, None, codes}
use Rattle.sw_schema.specs.Definition.{Definition, base_definition}
use Rattle.sw_schema.specs.Schema.{any, null, boolean, integer, text}

-- whole numbers, by their name and both bounds
abbrev pub number_definition : List ℕ → ℤ → ℤ → Definition
number_definition name low high = base_definition name (integer (Some low) (Some high))

abbrev pub boolean_definition : Definition
boolean_definition = base_definition (codes "boolean") boolean

abbrev pub null_definition : Definition
null_definition = base_definition (codes "null") null

abbrev pub text_definition : Definition
text_definition = base_definition (codes "string") (text None false false)

abbrev pub any_definition : Definition
any_definition = base_definition (codes "AnyValue") any
