-- What a log has gained, where want of memory may come in between.
use Rattle.std.specs.Prelude.{◌≡◌, List, ◌++◌, Option, MatchOption, Result, Ok, Err}
use Rattle.sw_tree.specs.declared.fail.Refusal.{Refusal}

-- the log has gained a first part of those refusals, and the rest of them is left
pub record HasGained (old new gains rest : List Refusal) : Type 0 where
  pub part : List Refusal
  pub log : new ≡ old ++ part
  pub split : gains ≡ part ++ rest

-- the log has gained those refusals, or a first part of them
pub record IsCut (old new gains : List Refusal) : Type 0 where
  pub rest : List Refusal
  pub gained : HasGained old new gains rest

-- the log has gained those refusals, of which want of memory, which tells no cause, may leave some out at the end
abbrev pub Logged : {T E R : Type 0} → (E → Option R) → Result T E → List Refusal → List Refusal → List Refusal → Type 0
Logged cause (Ok x) old gains new = new ≡ old ++ gains
Logged cause (Err e) old gains new = MatchOption (cause e) (IsCut old new gains) (λ c. new ≡ old ++ gains)
