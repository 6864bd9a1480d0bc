-- What parts that are written one after another keep, from what each part keeps.
use Rattle.std.specs.Prelude.{◌≡◌, List, [], ◌∷◌, map as list_map, Option, Some, None, Result, Ok, Err}
use Rattle.std.proofs.Common.{refl, ap, sym, subst, ◌∙◌}
use Rattle.sw_tree.specs.Steps.{bind, traverse, Each}
use Rattle.sw_tree.specs.Laws.Steps.{bind_ok, option_cons, option_traverse}

traverse-cons : {A B E : Type 0} (f : A → Result B E) (x : A) (xs : List A) (zs : List B) → traverse f (x ∷ xs) ≡ Ok zs
    → (y : B) × (ys : List B) × (f x ≡ Ok y) × (traverse f xs ≡ Ok ys) × (zs ≡ y ∷ ys)
traverse-cons f x xs zs p =
    let a = bind_ok (f x) (λ y. bind (traverse f xs) (λ ys. Ok (y ∷ ys))) zs p in
    let b = bind_ok (traverse f xs) (λ ys. Ok (a.0 ∷ ys)) zs a.2 in
    (a.0, b.0, a.1, b.1, (cc b.2))

-- what is made of each keeps what each keeps
module _ {A B E : Type 0} (f : A → Result B E) (P : A → Type 0) (Q : B → Type 0) (one : (x : A) (y : B) → P x → f x ≡ Ok y → Q y) where
  pub each_made : (xs : List A) (ys : List B) → Each P xs → traverse f xs ≡ Ok ys → Each Q ys
  each_made [] ys h p = let e : [] ≡ ys = cc in rw (← e) tt
  each_made (x ∷ xs) ys h p =
      let c = traverse-cons f x xs ys p in
      rw c.4 (one x c.0 h.0 c.2, each_made xs c.1 h.1 c.3)

consed : {C : Type 0} (o : Option C) (r : Option (List C)) (zs : List C) → option_cons o r ≡ Some zs → (z : C) × (rest : List C) × (o ≡ Some z) × (r ≡ Some rest) × (zs ≡ z ∷ rest)
consed (Some z) (Some rest) zs p = (z, rest, refl, refl, (cc))
consed (Some z) None zs p = absurd (cc)
consed None r zs p = absurd (cc)

none_imaged : {B C : Type 0} (img : B → Option C) (ys : List B) → [] ≡ ys → option_traverse img ys ≡ Some []
none_imaged img ys e = rw (← e) refl

next_imaged : {B C : Type 0} (img : B → Option C) (all : List B) (y : B) (ys : List B) (z : C) (zs : List C) → all ≡ y ∷ ys → img y ≡ Some z → option_traverse img ys ≡ Some zs → option_traverse img all ≡ Some (z ∷ zs)
next_imaged img all y ys z zs e k t = rw (e, k, t) refl

no_more : {B C : Type 0} (img : B → Option C) (ys : List B) (zs : List C) → [] ≡ ys → option_traverse img ys ≡ Some zs → [] ≡ zs
no_more img ys zs e p = let q : option_traverse img [] ≡ Some zs = rw (← e) at p in cc

-- side by side, each of the first stands so to the one of the second
abbrev pub Beside : {C A : Type 0} → (C → A → Type 0) → List C → List A → Type 0
Beside R [] [] = Unit {0}
Beside R [] (x ∷ xs) = ⊥
Beside R (z ∷ zs) [] = ⊥
Beside R (z ∷ zs) (x ∷ xs) = R z x × Beside R zs xs

module _ {A B C E : Type 0} (f : A → Result B E) (img : B → Option C) (P : A → Type 0) where
  pub each_imaged : ((x : A) (y : B) → P x → f x ≡ Ok y → (z : C) × (img y ≡ Some z)) → (xs : List A) (ys : List B) → Each P xs → traverse f xs ≡ Ok ys → (zs : List C) × (option_traverse img ys ≡ Some zs)
  each_imaged one [] ys h p = ([], none_imaged img ys (cc))
  each_imaged one (x ∷ xs) ys h p =
      let c = traverse-cons f x xs ys p in
      let k = one x c.0 h.0 c.2 in
      let t = each_imaged one xs c.1 h.1 c.3 in
      (k.0 ∷ t.0, next_imaged img ys c.0 c.1 k.0 t.0 c.4 k.1 t.1)

  -- the images are read as the norms
  pub each_back : (R : C → A → Type 0) (n : A → A) → ((x : A) (y : B) (z : C) → P x → f x ≡ Ok y → img y ≡ Some z → R z (n x)) →
      (xs : List A) (ys : List B) (zs : List C) → Each P xs → traverse f xs ≡ Ok ys → option_traverse img ys ≡ Some zs → Beside R zs (list_map n xs)
  each_back R n one [] ys zs h p q = subst (λ (l : List C). Beside R l []) (no_more img ys zs (cc) q) tt
  each_back R n one (x ∷ xs) ys zs h p q =
      let c = traverse-cons f x xs ys p in
      let d = consed (img c.0) (option_traverse img c.1) zs (ap (option_traverse img) (sym c.4) ∙ q) in
      subst (λ (l : List C). Beside R l (n x ∷ list_map n xs)) (sym d.4) (one x c.0 d.0 h.0 c.2 d.2, each_back R n one xs c.1 d.1 h.1 c.3 d.3)

module _ {A B E : Type 0} (f : A → Result B E) (P : A → Type 0) (e : E) (never : (x : A) → P x → f x ≡ Err e → ⊥) where
  next_never : (x : A) → P x → (r : Result B E) → f x ≡ r → (rest : Result (List B) E) → (rest ≡ Err e → ⊥) → bind r (λ y. bind rest (λ ys. Ok (y ∷ ys))) ≡ Err e → ⊥
  next_never x h (Ok y) k (Ok ys) t p = cc
  next_never x h (Ok y) k (Err d) t p = t (cc)
  next_never x h (Err d) k rest t p = let q : Err d ≡ Err e = p in never x h (k ∙ ap (λ (z : E). Err z) (cc q))

  pub each_never : (xs : List A) → Each P xs → traverse f xs ≡ Err e → ⊥
  each_never [] h p = cc
  each_never (x ∷ xs) h p = next_never x h.0 (f x) refl (traverse f xs) (each_never xs h.1) p

pub each_kept : {A : Type 0} (n : A → A) (P : A → Type 0) → ((x : A) → P x → n x ≡ x) → (xs : List A) → Each P xs → list_map n xs ≡ xs
each_kept n P one [] h = refl
each_kept n P one (x ∷ xs) h = rw (one x h.0, each_kept n P one xs h.1) refl

pub each_same : {A B E : Type 0} (f g : A → Result B E) → ((x : A) → f x ≡ g x) → (xs : List A) → traverse f xs ≡ traverse g xs
each_same f g one [] = refl
each_same f g one (x ∷ xs) = rw (one x, each_same f g one xs) refl

pub each_normed : {A : Type 0} (P : A → Type 0) (n : A → A) → ((x : A) → P x → P (n x)) → (xs : List A) → Each P xs → Each P (list_map n xs)
each_normed P n one [] h = tt
each_normed P n one (x ∷ xs) h = (one x h.0, each_normed P n one xs h.1)
