-- Orders of meanings.
use Rattle.std.specs.Prelude.{◌≡◌, false}
use Rattle.std.specs.Ordering.{ordering_reverse, is_gt}
use Rattle.std.specs.declared.cmp.Ordering.{Ordering}
use Rattle.std.specs.declared.cmp.Ordering.TheVariants.{Equal}
use Rattle.sw_tree.specs.Meaning.{Meaning}

abbrev pub Order : Type 0
Order = Meaning → Meaning → Ordering

-- R orders the meanings of which P holds: each equals itself, exchanging two turns the answer round, and less or equal is transitive
pub record Ranks (P : Meaning → Type 0) (R : Order) : Type 0 where
  pub itself : (x : Meaning) → P x → R x x ≡ Equal
  pub turned : (x y : Meaning) → P x → P y → R x y ≡ ordering_reverse (R y x)
  pub chains : (x y z : Meaning) → P x → P y → P z → is_gt (R x y) ≡ false → is_gt (R y z) ≡ false → is_gt (R x z) ≡ false

-- those that compare equal are the same
abbrev pub TellsApart : (Meaning → Type 0) → Order → Type 0
TellsApart P R = (x y : Meaning) → P x → P y → R x y ≡ Equal → x ≡ y

-- a value's order is that of its meanings
abbrev pub IsOrderOf : {T : Type 0} → (T → T → Ordering) → (T → Meaning) → Order → Type 0
IsOrderOf {T} cmp f R = (x y : T) → cmp x y ≡ R (f x) (f y)
