-- The classes of the texts that the types show.
use Rattle.std.specs.Prelude.{codes, Bool, true, false, ◌-◌, ◌^◌}
use Rattle.sw_check.specs.TextClass.{class_of}
use Rattle.sw_check.specs.declared.class.TextClass.{TextClass}

-- the digits
abbrev pub digit_class : TextClass
digit_class = class_of (codes "0123456789")

-- the digits and the minus
abbrev pub signed_class : TextClass
signed_class = class_of (codes "-0123456789")

-- what a number is shown by, where it has a sign and where it has none
abbrev pub decimal_class : Bool → TextClass
decimal_class true = signed_class
decimal_class false = digit_class

-- the letters of `true` and `false`
abbrev pub truth_class : TextClass
truth_class = class_of (codes "aeflrstu")

-- every byte, in texts that are never empty where it is said
abbrev pub byte_class : Bool → TextClass
byte_class filled = record { never_empty = filled; ascii = 2 ^ 128 - 1; other = true }
