-- That `==` and hashing agree with meanings, from std's own laws.
use Rattle.std.specs.Prelude.{◌≡◌, ◌↔◌, Bool, IsTrue, ℕ, List}
use Rattle.sw_tree.specs.Meaning.{Meaning}

-- values whose meanings are the type's are equal by `==` exactly where their meanings are the same
abbrev pub TellsSame : {T : Type 0} → (Meaning → Type 0) → (T → Meaning) → (T → T → Bool) → Type 0
TellsSame {T} P f eq = (x y : T) → P (f x) → P (f y) → IsTrue (eq x y) ↔ (f x ≡ f y)

-- values of one meaning, which is the type's, make the same writes to a hasher
abbrev pub HashesAlike : {T : Type 0} → (Meaning → Type 0) → (T → Meaning) → (T → List (List ℕ)) → Type 0
HashesAlike {T} P f input = (x y : T) → P (f x) → f x ≡ f y → input x ≡ input y
