-- What a call does to a source or a sink.
use Rattle.std.specs.Prelude.{ℕ, ◌≡◌, List, Option}

-- what it tells of its bytes, and its count of faults, before the call and after it
pub record Change : Type 0 where
  pub old : Option (List ℕ)
  pub new : Option (List ℕ)
  pub before : ℕ
  pub after : ℕ

-- nothing of that changed
pub record Kept (c : Change) : Type 0 where
  pub told : c.new ≡ c.old
  pub counts : c.after ≡ c.before
