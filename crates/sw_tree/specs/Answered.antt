-- What a call answers that may want memory, by the cause that its error tells.
use Rattle.std.specs.Prelude.{◌≡◌, Option, IfSome, Result, Ok, Err, Some, None, MatchOption}
use Rattle.sw_tree.specs.declared.fail.DeFail.{DeFail}
use Rattle.sw_tree.specs.declared.fail.DeFail.TheVariants as de
use Rattle.sw_tree.specs.declared.fail.PrintError.{PrintError}
use Rattle.sw_tree.specs.declared.fail.PrintError.TheVariants as print
use Rattle.sw_tree.specs.declared.fail.Refusal.{Refusal}
use Rattle.sw_tree.specs.declared.fail.SerError.{SerError}
use Rattle.sw_tree.specs.declared.fail.SerFail.{SerFail}
use Rattle.sw_tree.specs.declared.fail.SerFail.TheVariants as ser
use Rattle.sw_tree.specs.declared.fail.WireError.{WireError}
use Rattle.sw_tree.specs.declared.fail.WireError.TheVariants as wire

-- the value exactly where there is one, the refusal exactly where it is that one, or want of memory, which tells no cause
abbrev pub Answered : {T M E R : Type 0} → (T → M) → (E → Option R) → Result T E → Result M R → Type 0
Answered f cause (Ok x) r = r ≡ Ok (f x)
Answered f cause (Err e) r = IfSome (cause e) (λ c. r ≡ Err c)

-- the value exactly where there is one, a cause exactly where there is none, or want of memory
abbrev pub AnsweredOption : {T M E R : Type 0} → (T → M) → (E → Option R) → Result T E → Option M → Type 0
AnsweredOption f cause (Ok x) r = r ≡ Some (f x)
AnsweredOption f cause (Err e) r = IfSome (cause e) (λ c. r ≡ None)

-- no want of memory
abbrev pub AnsweredFreely : {T E R : Type 0} → (E → Option R) → Result T E → Type 0
AnsweredFreely cause (Ok x) = Unit {0}
AnsweredFreely cause (Err e) = MatchOption (cause e) ⊥ (λ c. Unit {0})

-- ---- the cause that each error tells
abbrev pub write_cause : SerFail → Option SerError
write_cause (ser.Unwritable e) = Some e
write_cause ser.Memory = None

abbrev pub read_cause : DeFail → Option Refusal
read_cause (de.Refused r) = Some r
read_cause de.Memory = None

abbrev pub wire_cause : WireError → Option WireError
wire_cause wire.Syntax = Some wire.Syntax
wire_cause (wire.NotWhole at) = Some (wire.NotWhole at)
wire_cause (wire.TooDeep at) = Some (wire.TooDeep at)
wire_cause wire.Memory = None

abbrev pub print_cause : PrintError → Option PrintError
print_cause print.Key = Some print.Key
print_cause print.Memory = None
