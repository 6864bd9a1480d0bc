-- What is written part by part: each item of the image is, by its place, the image of a written part.
use Rattle.std.specs.Prelude.{◌≡◌, suc, Bool, true, List, [], ◌∷◌, length, Option, Some, None, Result, Ok}
use Rattle.std.proofs.Common.{refl, ap, ◌∙◌}
use Rattle.sw_tree.specs.Steps.{bind, traverse, Each}
use Rattle.sw_tree.specs.Laws.Steps.{bind_ok, option_cons, option_traverse}
use Rattle.sw_schema.specs.Laws.Leaves.{both_true}
use Rattle.sw_schema.specs.Valid.{all_pass}

module _ {A B C E : Type 0} (f : A → Result B E) (img : B → Option C) where
  -- `z` is the image of what `x` is written as
  pub record IsImageOf (x : A) (z : C) : Type 0 where
    pub written : B
    pub writes : f x ≡ Ok written
    pub images : img written ≡ Some z

  -- and so are these of those, by their places
  abbrev pub AreImages : List A → List C → Type 0
  AreImages [] [] = Unit {0}
  AreImages (x ∷ xs) (z ∷ zs) = IsImageOf x z × AreImages xs zs
  AreImages _ _ = ⊥

  next_are : (x : A) (xs : List A) (q : Option C) (r : Option (List C)) (y : B) (zs : List C) → f x ≡ Ok y → img y ≡ q → ((us : List C) → r ≡ Some us → AreImages xs us) → option_cons q r ≡ Some zs → AreImages (x ∷ xs) zs
  next_are x xs (Some z) (Some us) y zs p e later h =
      let k : z ∷ us ≡ zs = cc in
      rw (← k) (record { written = y; writes = p; images = e }, later us refl)
  next_are x xs (Some z) None y zs p e later h = absurd (cc)
  next_are x xs None r y zs p e later h = absurd (cc)

  none_are : (ys : List B) (zs : List C) → [] ≡ ys → option_traverse img ys ≡ Some zs → AreImages [] zs
  none_are [] zs e p = let k : [] ≡ zs = cc in rw (← k) tt
  none_are (y ∷ ys) zs e p = absurd (cc)

  pub are_images : (xs : List A) (ys : List B) (zs : List C) → traverse f xs ≡ Ok ys → option_traverse img ys ≡ Some zs → AreImages xs zs
  are_images [] ys zs p q = none_are ys zs (cc) q
  are_images (x ∷ xs) ys zs p q =
      let c = bind_ok (f x) (λ y. bind (traverse f xs) (λ us. Ok (y ∷ us))) ys p in
      let d = bind_ok (traverse f xs) (λ us. Ok (c.0 ∷ us)) ys c.2 in
      let e : c.0 ∷ d.0 ≡ ys = cc d.2 in
      next_are x xs (img c.0) (option_traverse img d.0) c.0 zs c.1 refl (λ us h. are_images xs d.0 us d.1 h) (ap (option_traverse img) e ∙ q)

  -- there are as many
  pub as_many : (xs : List A) (zs : List C) → AreImages xs zs → length zs ≡ length xs
  as_many [] [] h = refl
  as_many [] (z ∷ zs) h = absurd h
  as_many (x ∷ xs) [] h = absurd h
  as_many (x ∷ xs) (z ∷ zs) h = ap suc (as_many xs zs h.1)

-- what the image of each part passes, all items pass
module _ {A B C E : Type 0} (f : A → Result B E) (img : B → Option C) (P : A → Type 0) (g : C → Bool) (one : (x : A) (z : C) → P x → IsImageOf f img x z → g z ≡ true) where
  pub all_written : (xs : List A) (zs : List C) → Each P xs → AreImages f img xs zs → all_pass g zs ≡ true
  all_written [] [] h k = refl
  all_written [] (z ∷ zs) h k = absurd k
  all_written (x ∷ xs) [] h k = absurd k
  all_written (x ∷ xs) (z ∷ zs) h k = both_true (g z) (all_pass g zs) (one x z h.0 k.0) (all_written xs zs h.1 k.1)
