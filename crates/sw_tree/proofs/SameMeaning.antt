-- `==` and hashing agree with meanings, from std's own laws.
use Rattle.std.specs.Prelude.{◌≡◌, Bool, true, ℕ, List, IsTrue}
use Rattle.std.specs.Ordering.{is_eq}
use Rattle.std.specs.declared.cmp.Ordering.{Ordering}
use Rattle.std.proofs.Common.{ap, sym, ◌∙◌, subst}
use Rattle.sw_tree.specs.Meaning.{Meaning}
use Rattle.sw_tree.specs.Ranks.{Order, Ranks, TellsApart, IsOrderOf}
use Rattle.sw_tree.specs.SameMeaning.{TellsSame, HashesAlike}
use Rattle.sw_tree.specs.Laws.Hashed.{equal_from_level}

module _ {T : Type 0} (eq : T → T → Bool) (cmp : T → T → Ordering) (f : T → Meaning) (P : Meaning → Type 0) (R : Order)
    (ties : (x y : T) → eq x y ≡ is_eq (cmp x y)) (o : IsOrderOf cmp f R) (ranks : Ranks P R) (apart : TellsApart P R) where
  same_from_eq : (x y : T) → P (f x) → P (f y) → eq x y ≡ true → f x ≡ f y
  same_from_eq x y h k e = apart (f x) (f y) h k (equal_from_level (R (f x) (f y)) (ap is_eq (sym (o x y)) ∙ sym (ties x y) ∙ e))

  eq_from_same : (x y : T) → P (f x) → f x ≡ f y → eq x y ≡ true
  eq_from_same x y h e = ties x y ∙ ap is_eq (o x y ∙ ap (R (f x)) (sym e) ∙ ranks.itself (f x) h)

  pub tells_same : TellsSame P f eq
  tells_same x y h k = (same_from_eq x y h k, eq_from_same x y h)

pub hashes_alike : {T : Type 0} (input : T → List (List ℕ)) (f : T → Meaning) (P : Meaning → Type 0) (eq : T → T → Bool) → ((x y : T) → IsTrue (eq x y) → input x ≡ input y) → TellsSame P f eq → HashesAlike P f input
hashes_alike input f P eq respects same x y h e = respects x y ((same x y h (subst P e h)).1 e)
