-- Appending bytes, and then more.
use Rattle.std.proofs.Common.{◌≡◌, ℕ, List, ◌++◌, ap, ◌∙◌, append_assoc, Result, Ok, Err}
use Rattle.sw_tree.specs.declared.fail.SerFail.{SerFail}
use Rattle.sw_tree.specs.declared.fail.SerFail.TheVariants.{Unwritable, Memory}
use Rattle.sw_compact.specs.Inner.Appended.{IsTurned, IsAppended}

abbrev pub Done : Type 0
Done = Result (Unit {0}) SerFail

onto : (before mid a b : List ℕ) → mid ≡ before ++ a → mid ++ b ≡ before ++ (a ++ b)
onto before mid a b e = ap (λ x. x ++ b) e ∙ append_assoc before a b

-- what is appended behind the first is appended with it
pub appended-then : (done : Done) (before mid after a b : List ℕ) → mid ≡ before ++ a → IsAppended done mid after b → IsAppended done before after (a ++ b)
appended-then (Ok u) before mid after a b e h = h ∙ onto before mid a b e
appended-then (Err (Unwritable x)) before mid after a b e h = h
appended-then (Err Memory) before mid after a b e h = (a ++ h.0, h.1 ∙ onto before mid a h.0 e)

-- where the first is refused, both are
pub appended-refused : (e : SerFail) (before after a b : List ℕ) → IsTurned (Err e) before after a → IsTurned (Err e) before after b
appended-refused (Unwritable x) before after a b h = h
appended-refused Memory before after a b h = h

pub ruleset appending = (appended-then, appended-refused)
