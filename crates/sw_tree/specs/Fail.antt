-- The name of a refusal.
use Rattle.sw_tree.specs.declared.fail.DeError.{DeError}
use Rattle.sw_tree.specs.declared.fail.DeKind.{DeKind}
use Rattle.sw_tree.specs.declared.fail.DeError.TheVariants as error
use Rattle.sw_tree.specs.declared.fail.DeKind.TheVariants as kind

abbrev pub kind_of_error : DeError → DeKind
kind_of_error (error.InvalidType k) = kind.InvalidType
kind_of_error error.InvalidValue = kind.InvalidValue
kind_of_error (error.InvalidLength n) = kind.InvalidLength
kind_of_error (error.MissingField i) = kind.MissingField
kind_of_error error.UnknownField = kind.UnknownField
kind_of_error error.UnknownVariant = kind.UnknownVariant
kind_of_error error.DuplicateKey = kind.DuplicateKey
kind_of_error error.DuplicateValue = kind.DuplicateValue
kind_of_error error.DuplicateField = kind.DuplicateField
kind_of_error (error.NoVariant kinds) = kind.NoVariant
kind_of_error error.Text = kind.Text
kind_of_error error.Convert = kind.Convert
