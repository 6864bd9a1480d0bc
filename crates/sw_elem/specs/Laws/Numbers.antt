-- The law of whole numbers by themselves, at a type of any range.
use Rattle.std.specs.Prelude.{ℕ, ◌<◌, ℤ, pos, negsuc, ◌≡◌, true, ◌≤◌, ◌^◌, false, FitsSigned, Bool, if◌then◌else◌, Option, Some, None, Ok}
use mir.Val.{hbits}
use Rattle.std.specs.Bool.{Decides}
use Rattle.std.specs.Int.{Width, w8, w16, w32, w64, w128}
use Rattle.std.specs.Int.Signed.{mag}
use Rattle.std.specs.Option.{ok_or}
use Rattle.std.proofs.Common.{refl, arith, lit≤, subst}
use Rattle.std.proofs.lemmas.Bool.{ltb-true}
use Rattle.std.proofs.lemmas.Bool.Decides.{Decides-ltb}
use Rattle.sw_tree.specs.Meaning.{Meaning, number}
use Rattle.sw_tree.specs.Meant.{IsBelow, IsSigned}
use Rattle.sw_tree.specs.Number.{IsInRange, key_number}
use Rattle.sw_tree.specs.Tree.{Tree, int_at}
use Rattle.sw_tree.specs.declared.mode.Mode.{Mode}
use Rattle.sw_tree.specs.declared.fail.DeError.TheVariants as fail
use Rattle.sw_tree.specs.Laws.Steps.{bind_ok}
use Rattle.sw_elem.specs.Equations.{LawfulReading, own_spot}
use Rattle.sw_elem.specs.Integer.{IsWide, IsInteger}
use Rattle.sw_elem.specs.KeyPlace.{keyed_reads}
use Rattle.sw_elem.specs.Numbers.{is_within, is_below, ranged, ranged_or_invalid, number_reads}
use Rattle.sw_elem.specs.Laws.Equations.{own_spot-inside}

-- ---- the types of whole numbers
pub is_within-decides : (limit : ℕ) (z : ℤ) → Decides (is_within limit z) (mag z < limit)
is_within-decides limit (pos n) = Decides-ltb n limit
is_within-decides limit (negsuc n) = Decides-ltb n limit

below_number : (limit : ℕ) (v : Meaning) → IsBelow limit v → (n : ℤ) × (v ≡ number n) × (is_below limit n ≡ true)
below_number limit (number (pos n)) h = (pos n, refl, (Decides-ltb n limit).1 h)
below_number limit _ h = absurd h

below_meaning : (limit : ℕ) (n : ℤ) → is_below limit n ≡ true → IsBelow limit (number n)
below_meaning limit (pos n) h = ltb-true n limit h
below_meaning limit (negsuc n) h = absurd (cc)

below_wide : (limit : ℕ) → limit ≤ 2 ^ 128 → (n : ℤ) → is_below limit n ≡ true → IsWide false n
below_wide limit most (pos n) h = let small : n < limit = ltb-true n limit h in omega arith
below_wide limit most (negsuc n) h = absurd (cc)

pub unsigned_integer : (limit : ℕ) → limit ≤ 2 ^ 128 → IsInteger false (is_below limit) (IsBelow limit)
unsigned_integer limit most = record { numbers = below_number limit; meanings = below_meaning limit; wide = below_wide limit most }

pub half_most : (w : Width) → 2 ^ hbits w ≤ 2 ^ 127
half_most w8 = lit≤ tt
half_most w16 = lit≤ tt
half_most w32 = lit≤ tt
half_most w64 = lit≤ tt
half_most w128 = lit≤ tt

within_number : (w : Width) (v : Meaning) → IsSigned w v → (n : ℤ) × (v ≡ number n) × (is_within (2 ^ hbits w) n ≡ true)
within_number w (number z) h = (z, refl, (is_within-decides (2 ^ hbits w) z).1 h.sfits)
within_number w _ h = absurd h

within_meaning : (w : Width) (z : ℤ) → is_within (2 ^ hbits w) z ≡ true → IsSigned w (number z)
within_meaning w z h = record { sfits = (is_within-decides (2 ^ hbits w) z).0 h }

within_wide : (w : Width) (z : ℤ) → is_within (2 ^ hbits w) z ≡ true → FitsSigned w128 z
within_wide w z h = let small : mag z < 2 ^ hbits w = (is_within-decides (2 ^ hbits w) z).0 h in record { sfits = omega (arith, half_most w) }

pub signed_integer : (w : Width) → IsInteger true (is_within (2 ^ hbits w)) (IsSigned w)
signed_integer w = record { numbers = within_number w; meanings = within_meaning w; wide = within_wide w }

-- such a number has a place in a tree
pub wide_range : (signed : Bool) (n : ℤ) → IsWide signed n → IsInRange n
wide_range true (pos n) h = let small : n < 2 ^ 127 = h.sfits in omega arith
wide_range true (negsuc n) h = h.sfits
wide_range false (pos n) h = h
wide_range false (negsuc n) h = absurd h

-- ---- what is read
module _ (signed : Bool) (fits : ℤ → Bool) (P : Meaning → Type 0) (law : IsInteger signed fits P) where
  by_test : (n : ℤ) (b : Bool) → fits n ≡ b → (v : Meaning) → (if b then Some (number n) else None) ≡ Some v → P v
  by_test n true h v p = let e : number n ≡ v = cc in subst P e (law.meanings n h)
  by_test n false h v p = absurd (cc)

  -- a number in the range is one of the type's
  pub ranged_meaning : (n : ℤ) (v : Meaning) → ranged fits n ≡ Some v → P v
  ranged_meaning n v p = by_test n (fits n) refl v p

  some_read : (o : Option Meaning) (v : Meaning) → ok_or o fail.InvalidValue ≡ Ok v → o ≡ Some v
  some_read (Some u) v p = cc
  some_read None v p = absurd (cc)

  number_meanings : (m : Mode) (t : Tree) (v : Meaning) → number_reads fits m t ≡ Ok v → P v
  number_meanings m t v p =
      let q = bind_ok (keyed_reads int_at key_number m t) (ranged_or_invalid fits) v p in
      ranged_meaning q.0 v (some_read (ranged fits q.0) v q.2)

  pub number_lawful : LawfulReading P (number_reads fits) own_spot
  number_lawful = record { meanings = λ m t v n p. number_meanings m t v p; inside = λ m t e p. own_spot-inside m t }
