-- The schemas of the profiles' nests.
use Rattle.std.specs.Prelude.{◌^◌, ◌-◌, pos, true, false, [], ◌∷◌, codes}
use Rattle.sw_schema.specs.Definition.{Definition}
use Rattle.sw_schema.specs.Elements.{number_definition, boolean_definition, text_definition, any_definition}
use Rattle.sw_schema.specs.Schema.{Schema}
use Rattle.sw_schemas.specs.Definitions.{list_definition, map_definition, option_definition, tuple_definition}
use Rattle.sw_policy.specs.Definitions.{pick_definition, one_or_many_definition}
use Rattle.sw_tool.specs.Settings.{settings_definition}
use Rattle.sw_tool.specs.declared.command.Profile.{Profile}
use Rattle.sw_tool.specs.declared.command.Profile.TheVariants.{Ids, Any, Table, Flex, Names, Lists, Keys, Wrap, Settings}

-- numbers below 2^8, and below 2^32
abbrev byte : Definition
byte = number_definition (codes "uint8") (pos 0) (pos (2 ^ 8 - 1))

abbrev word : Definition
word = number_definition (codes "uint32") (pos 0) (pos (2 ^ 32 - 1))

-- such a number, or a text that spells it
abbrev flexible : Definition
flexible = pick_definition (word ∷ text_definition ∷ [])

abbrev definition_of : Profile → Definition
definition_of Ids = list_definition text_definition
definition_of Any = any_definition
definition_of Table = map_definition (list_definition byte)
definition_of Flex = list_definition flexible
definition_of Names = one_or_many_definition true false text_definition
definition_of Lists = one_or_many_definition true false (list_definition byte)
definition_of Keys = map_definition boolean_definition
definition_of Wrap = one_or_many_definition false false (map_definition any_definition)
definition_of Settings =
    settings_definition text_definition (one_or_many_definition true false flexible) (option_definition (tuple_definition (word ∷ word ∷ []))) (map_definition text_definition)

-- the schema of what the nest writes
unfoldable pub schema_of : Profile → Schema
schema_of p = (definition_of p).schema
