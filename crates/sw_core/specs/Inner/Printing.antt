-- The text of a value: what is printed of the tree that is written for it.
use Rattle.std.specs.Prelude.{ℕ, List, Option, Some, None, Result, Ok, Err, Vec}
use Rattle.std.specs.declared.alloc.Global.{Global}
use Rattle.sw_tree.specs.Answered.{Answered, write_cause}
use Rattle.sw_tree.specs.Tree.{Tree}
use Rattle.sw_tree.specs.Steps.{bind}
use Rattle.sw_tree.specs.Wires.{Texts, printed}
use Rattle.sw_tree.specs.declared.mode.WireKind.{WireKind}
use Rattle.sw_tree.specs.declared.fail.SerError.{SerError}
use Rattle.sw_tree.specs.declared.fail.SerError.TheVariants as reason
use Rattle.sw_tree.specs.declared.fail.SerFail.{SerFail}

abbrev pub text_or_key : Option (List ℕ) → Result (List ℕ) SerError
text_or_key None = Err reason.Key
text_or_key (Some s) = Ok s

-- the text of the written tree, the writer's refusal, or Key where the tree doesn't print
abbrev pub printed_as : WireKind → Texts → Result Tree SerError → Result (List ℕ) SerError
printed_as w text r = bind r (λ t. text_or_key (printed w text t))

abbrev pub IsPrintedAs : Result (Vec ℕ Global) SerFail → Result (List ℕ) SerError → Type 0
IsPrintedAs = Answered (λ (v : Vec ℕ Global). v.items) write_cause
