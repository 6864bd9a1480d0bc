-- The longest front of bytes that pass.
use Rattle.std.specs.Prelude.{◌&&◌}
use Rattle.std.specs.List.{list_all}
use Rattle.std.proofs.Common.{◌≡◌, Bool, true, false, refl, ℕ, List, [], ◌∷◌, ◌++◌, cond, ap}
use Rattle.sw_json.specs.Bytes.{front, behind, Stops}

pub and_left : (a b : Bool) → (a && b) ≡ true → a ≡ true
and_left true b h = refl
and_left false b h = cc

pub and_right : (a b : Bool) → (a && b) ≡ true → b ≡ true
and_right true b h = h
and_right false b h = cc

module _ (p : ℕ → Bool) where
  split_step : (t : Bool) (b : ℕ) (bs : List ℕ) → bs ≡ front p bs ++ behind p bs → b ∷ bs ≡ cond t (b ∷ front p bs) [] ++ cond t (behind p bs) (b ∷ bs)
  split_step true b bs h = ap (λ x. b ∷ x) h
  split_step false b bs h = refl

  pub split : (bs : List ℕ) → bs ≡ front p bs ++ behind p bs
  split [] = refl
  split (b ∷ bs) = split_step (p b) b bs (split bs)

  all_step : (t : Bool) (b : ℕ) (bs : List ℕ) → p b ≡ t → list_all p (front p bs) ≡ true → list_all p (cond t (b ∷ front p bs) []) ≡ true
  all_step true b bs e h = rw e h
  all_step false b bs e h = refl

  pub front_passes : (bs : List ℕ) → list_all p (front p bs) ≡ true
  front_passes [] = refl
  front_passes (b ∷ bs) = all_step (p b) b bs refl (front_passes bs)

  stops_step : (t : Bool) (b : ℕ) (bs : List ℕ) → p b ≡ t → Stops p (behind p bs) → Stops p (cond t (behind p bs) (b ∷ bs))
  stops_step true b bs e h = h
  stops_step false b bs e h = e

  pub behind_stops : (bs : List ℕ) → Stops p (behind p bs)
  behind_stops [] = tt
  behind_stops (b ∷ bs) = stops_step (p b) b bs refl (behind_stops bs)

  pub front_is : (s rest : List ℕ) → list_all p s ≡ true → Stops p rest → front p (s ++ rest) ≡ s
  front_is [] [] h k = refl
  front_is [] (b ∷ bs) h k = rw k refl
  front_is (a ∷ s) rest h k = rw (and_left (p a) (list_all p s) h) (ap (λ x. a ∷ x) (front_is s rest (and_right (p a) (list_all p s) h) k))

  pub behind_is : (s rest : List ℕ) → list_all p s ≡ true → Stops p rest → behind p (s ++ rest) ≡ rest
  behind_is [] [] h k = refl
  behind_is [] (b ∷ bs) h k = rw k refl
  behind_is (a ∷ s) rest h k = rw (and_left (p a) (list_all p s) h) (behind_is s rest (and_right (p a) (list_all p s) h) k)

-- two runs, one behind the other
pub all_append : (p : ℕ → Bool) (s t : List ℕ) → list_all p s ≡ true → list_all p t ≡ true → list_all p (s ++ t) ≡ true
all_append p [] t h k = k
all_append p (b ∷ bs) t h k = rw (and_left (p b) (list_all p bs) h) (all_append p bs t (and_right (p b) (list_all p bs) h) k)
