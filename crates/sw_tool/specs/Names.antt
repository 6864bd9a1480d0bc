-- The names of refusals, rules and grades, as the program prints them.
use Rattle.std.specs.Prelude.{ℕ, List, codes}
use Rattle.sw_tree.specs.declared.fail.DeKind.{DeKind}
use Rattle.sw_tree.specs.declared.fail.DeKind.TheVariants as kind
use Rattle.sw_tree.specs.declared.fail.SerError.{SerError}
use Rattle.sw_tree.specs.declared.fail.SerError.TheVariants as reason
use Rattle.sw_check.specs.declared.rule.Rule.{Rule}
use Rattle.sw_check.specs.declared.rule.Rule.TheVariants as rule
use Rattle.sw_check.specs.declared.grade.Grade.{Grade}
use Rattle.sw_check.specs.declared.grade.Grade.TheVariants as grade

abbrev pub kind_name : DeKind → List ℕ
kind_name kind.InvalidType = codes "InvalidType"
kind_name kind.InvalidValue = codes "InvalidValue"
kind_name kind.InvalidLength = codes "InvalidLength"
kind_name kind.MissingField = codes "MissingField"
kind_name kind.UnknownField = codes "UnknownField"
kind_name kind.UnknownVariant = codes "UnknownVariant"
kind_name kind.DuplicateKey = codes "DuplicateKey"
kind_name kind.DuplicateValue = codes "DuplicateValue"
kind_name kind.DuplicateField = codes "DuplicateField"
kind_name kind.NoVariant = codes "NoVariant"
kind_name kind.Text = codes "Text"
kind_name kind.Convert = codes "Convert"

abbrev pub reason_name : SerError → List ℕ
reason_name reason.TooDeep = codes "TooDeep"
reason_name reason.OutOfRange = codes "OutOfRange"
reason_name reason.Convert = codes "Convert"
reason_name reason.Key = codes "Key"

abbrev pub rule_name : Rule → List ℕ
rule_name rule.S1 = codes "S1"
rule_name rule.S2 = codes "S2"
rule_name rule.S3 = codes "S3"
rule_name rule.S4 = codes "S4"
rule_name rule.S5 = codes "S5"
rule_name rule.S6 = codes "S6"
rule_name rule.S7 = codes "S7"
rule_name rule.S8 = codes "S8"

abbrev pub grade_name : Grade → List ℕ
grade_name grade.Exact = codes "exact"
grade_name grade.Rounded = codes "rounded"
