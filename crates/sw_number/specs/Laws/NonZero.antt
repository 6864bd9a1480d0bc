-- A type of whole numbers without 0 is again one, and in the same order.
use Rattle.std.specs.Prelude.{◌≡◌, ℤ, Bool, true, false, ◌&&◌}
use Rattle.std.proofs.Common.{refl, subst}
use Rattle.sw_tree.specs.LeafRanks.{number_of}
use Rattle.sw_tree.specs.Meaning.{Meaning, number}
use Rattle.sw_tree.specs.Ranks.{Order, Ranks}
use Rattle.sw_elem.specs.Equations.{Writes}
use Rattle.sw_elem.specs.Integer.{IsInteger}
use Rattle.sw_schema.specs.JsonSchema.{WritesSchema}
use Rattle.sw_schema.specs.Schema.{Schema}
use Rattle.sw_number.specs.NonZero.{is_nonzero, nonzero_fits, IsNonZeroOf}

both_true : (a b : Bool) → (a && b) ≡ true → (a ≡ true) × (b ≡ true)
both_true true b h = (refl, h)
both_true false b h = absurd (cc)

and_true : (a b : Bool) → a ≡ true → b ≡ true → (a && b) ≡ true
and_true true b h k = k
and_true false b h k = absurd (cc)

module _ {signed : Bool} {fits : ℤ → Bool} {P : Meaning → Type 0} (law : IsInteger signed fits P) where
  numbers : (v : Meaning) → IsNonZeroOf P v → (n : ℤ) × (v ≡ number n) × (nonzero_fits fits n ≡ true)
  numbers v h =
      let n = law.numbers v h.0 in
      let other : is_nonzero n.0 ≡ true = subst (λ (u : Meaning). is_nonzero (number_of u) ≡ true) n.1 h.1 in
      (n.0, n.1, and_true (fits n.0) (is_nonzero n.0) n.2 other)

  meanings : (n : ℤ) → nonzero_fits fits n ≡ true → IsNonZeroOf P (number n)
  meanings n h = let b = both_true (fits n) (is_nonzero n) h in (law.meanings n b.0, b.1)

  pub nonzero_integer : IsInteger signed (nonzero_fits fits) (IsNonZeroOf P)
  nonzero_integer = record { numbers = numbers; meanings = meanings; wide = λ n h. law.wide n (both_true (fits n) (is_nonzero n) h).0 }

pub nonzero_ranks : {P : Meaning → Type 0} {R : Order} → Ranks P R → Ranks (IsNonZeroOf P) R
nonzero_ranks ranks = record {
  itself = λ x h. ranks.itself x h.0;
  turned = λ x y h k. ranks.turned x y h.0 k.0;
  chains = λ x y z h k l a b. ranks.chains x y z h.0 k.0 l.0 a b;
}

-- what all numbers of the type write is valid, and so is what those but 0 write
pub nonzero_writes_schema : {P : Meaning → Type 0} {w : Writes} {s : Schema} → WritesSchema P w s → WritesSchema (IsNonZeroOf P) w s
nonzero_writes_schema all = record { fits = λ b v t i h p e. all.fits b v t i h.0 p e }
