-- What is made of parts that are written, and has at most 128 levels.
use Rattle.std.specs.Prelude.{◌≡◌, cond, nat_le, Bool, true, false, ◌≤◌, Result, Ok, Err}
use Rattle.std.proofs.Common.{refl, sym, subst}
use Rattle.std.proofs.lemmas.Bool.{leb-true}
use Rattle.sw_tree.specs.Building.{within}
use Rattle.sw_tree.specs.Steps.{bind}
use Rattle.sw_tree.specs.Tree.{Tree, depth}
use Rattle.sw_tree.specs.declared.fail.SerError.{SerError}
use Rattle.sw_tree.specs.declared.fail.SerError.TheVariants as ser

chosen : (b : Bool) (x y : Tree) (e : SerError) → cond b (Ok x) (Err e) ≡ Ok y → x ≡ y
chosen true x y e p = cc
chosen false x y e p = absurd (cc)

chosen_shallow : (x y : Tree) (b : Bool) → nat_le (depth x) 128 ≡ b → cond b (Ok x) (Err ser.TooDeep) ≡ Ok y → depth y ≤ 128
chosen_shallow x y true h p = let e : x ≡ y = cc in subst (λ t. depth t ≤ 128) e (leb-true (depth x) 128 h)
chosen_shallow x y false h p = absurd (cc)

not_key : (b : Bool) (x : Tree) → cond b (Ok x) (Err ser.TooDeep) ≡ Err ser.Key → ⊥
not_key true x p = cc
not_key false x p = cc

module _ {A : Type 0} (make : A → Tree) where
  pub within_ok : (r : Result A SerError) (t : Tree) → bind r (λ x. within (make x)) ≡ Ok t → (x : A) × (r ≡ Ok x) × (t ≡ make x)
  within_ok (Ok x) t p = (x, refl, sym (chosen (nat_le (depth (make x)) 128) (make x) t ser.TooDeep p))
  within_ok (Err e) t p = absurd (cc)

  pub within_shallow : (r : Result A SerError) (t : Tree) → bind r (λ x. within (make x)) ≡ Ok t → depth t ≤ 128
  within_shallow (Ok x) t p = chosen_shallow (make x) t (nat_le (depth (make x)) 128) refl p
  within_shallow (Err e) t p = absurd (cc)

  pub within_key : (r : Result A SerError) → bind r (λ x. within (make x)) ≡ Err ser.Key → r ≡ Err ser.Key
  within_key (Ok x) p = absurd (not_key (nat_le (depth (make x)) 128) (make x) p)
  within_key (Err e) p = cc
