-- What recoding answers, and what it logs, as functions of the bytes.
use Rattle.std.specs.Prelude.{ℕ, List, [], map, Option, Some, None, Result, Ok, Err, Vec}
use Rattle.std.specs.declared.alloc.Global.{Global}
use Rattle.sw_tree.specs.Answered.{Answered}
use Rattle.sw_tree.specs.Logged.{Logged}
use Rattle.sw_tree.specs.Meaning.{Meaning}
use Rattle.sw_tree.specs.Mode.{plain}
use Rattle.sw_tree.specs.Placed.{Note}
use Rattle.sw_tree.specs.Steps.{bind}
use Rattle.sw_tree.specs.Tree.{Tree}
use Rattle.sw_tree.specs.Wires.{Spelled, Texts, printed}
use Rattle.sw_tree.specs.declared.mode.WireKind.{WireKind}
use Rattle.sw_tree.specs.declared.fail.DeError.{DeError}
use Rattle.sw_tree.specs.declared.fail.DeFail.{DeFail}
use Rattle.sw_tree.specs.declared.fail.DeFail.TheVariants as de
use Rattle.sw_tree.specs.declared.fail.Refusal.{Refusal}
use Rattle.sw_tree.specs.declared.fail.SerError.{SerError}
use Rattle.sw_tree.specs.declared.fail.SerError.TheVariants as reason
use Rattle.sw_tree.specs.declared.fail.SerFail.{SerFail}
use Rattle.sw_tree.specs.declared.fail.SerFail.TheVariants as ser
use Rattle.sw_tree.specs.declared.fail.WireError.{WireError}
use Rattle.sw_tree.specs.declared.fail.WireError.TheVariants as wire
use Rattle.sw_tree.specs.declared.fail.PrintError.{PrintError}
use Rattle.sw_tree.specs.declared.fail.PrintError.TheVariants as print
use Rattle.sw_elem.specs.Equations.{Writes, Reads, Spots, Skips}
use Rattle.sw_core.specs.declared.recode.RecodeError.{RecodeError}
use Rattle.sw_core.specs.declared.recode.RecodeError.TheVariants as fail

-- the error of recoding for a wire's
abbrev pub wire_error : WireError → RecodeError
wire_error wire.Syntax = fail.Syntax
wire_error (wire.NotWhole at) = fail.NotWhole at
wire_error (wire.TooDeep at) = fail.TooDeep at
wire_error wire.Memory = fail.Memory

-- the tree that the bytes spell
abbrev pub found : Result Tree WireError → Result Tree RecodeError
found (Ok t) = Ok t
found (Err e) = Err (wire_error e)

-- the value that is read, or the refusal at its node's number
abbrev pub read : ℕ → Result Meaning DeError → Result Meaning RecodeError
read k (Ok v) = Ok v
read k (Err e) = Err (fail.Refused (record { error = e; place = k }))

-- the tree that is written
abbrev pub written : Result Tree SerError → Result Tree RecodeError
written (Ok u) = Ok u
written (Err e) = Err (fail.Unwritable e)

-- the text that is printed
abbrev pub shown : Option (List ℕ) → Result (List ℕ) RecodeError
shown (Some b) = Ok b
shown None = Err (fail.Unwritable reason.Key)

-- The value and its new text, or the first error on the way.
abbrev pub answer : Reads → Spots → Writes → WireKind → Spelled → Texts → List ℕ → Result (Meaning × List ℕ) RecodeError
answer reads spot writes w spelled text bytes =
    bind (found (spelled bytes)) (λ t.
    bind (read (spot (plain w) t) (reads (plain w) t)) (λ v.
    bind (written (writes (plain w) v)) (λ u.
    bind (shown (printed w text u)) (λ b.
    Ok (v, b)))))

-- the notes, each at its node's number
abbrev pub noted : List Note → List Refusal
noted ns = map (λ (n : Note). record { error = n.error; place = n.number }) ns

abbrev pub passed_over : (Tree → List Note) → Result Tree WireError → List Refusal
passed_over skips (Ok t) = noted (skips t)
passed_over skips (Err e) = []

-- The refusals that are passed over; none where the wire gives no tree.
abbrev pub skipped : Skips → WireKind → Spelled → List ℕ → List Refusal
skipped skips w spelled bytes = passed_over (skips (plain w)) (spelled bytes)

-- the cause that an error of recoding tells
abbrev pub recode_cause : RecodeError → Option RecodeError
recode_cause fail.Memory = None
recode_cause e = Some e

-- the answer, or want of memory
abbrev pub IsRecoded : {T : Type 0} → (T → Meaning) → Result (T × Vec ℕ Global) RecodeError → Result (Meaning × List ℕ) RecodeError → Type 0
IsRecoded {T} f = Answered (λ (p : T × Vec ℕ Global). (f p.0, p.1.items)) recode_cause

-- the log has gained those refusals, of which want of memory may leave some out at the end
abbrev pub IsNoted : {T : Type 0} → Result T RecodeError → List Refusal → List Refusal → List Refusal → Type 0
IsNoted = Logged recode_cause

-- the errors of recoding for those of its steps
abbrev pub read_error : DeFail → RecodeError
read_error (de.Refused r) = fail.Refused r
read_error de.Memory = fail.Memory

abbrev pub write_error : SerFail → RecodeError
write_error (ser.Unwritable e) = fail.Unwritable e
write_error ser.Memory = fail.Memory

abbrev pub print_error : PrintError → RecodeError
print_error print.Key = fail.Unwritable reason.Key
print_error print.Memory = fail.Memory
