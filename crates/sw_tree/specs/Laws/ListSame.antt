-- Lists and arrays of one meaning are equal and hash alike, as their items.
use Rattle.std.specs.Prelude.{◌≡◌, ℕ, suc, Bool, ◌&&◌, List, [], ◌∷◌, ◌++◌, map, length}
use Rattle.std.specs.Bool.{Decides}
use Rattle.std.specs.List.{flat_map}
use Rattle.std.specs.Hash.{HashWrites}
use Rattle.std.specs.Hash as fed
use Rattle.std.specs.Cmp.{first_so, second_so}
use Rattle.std.specs.Cmp.Lexicographic.{pointwise}
use Rattle.std.proofs.Common.{refl, ap, sym, subst, ◌∙◌}
use Rattle.sw_tree.specs.Meaning.{Meaning, list, meanings}
use Rattle.sw_tree.specs.Steps.{Each}
use Rattle.sw_tree.specs.Meant.{list_meaning, IsListOf, IsArrayOf}
use Rattle.sw_tree.specs.ListRanks.{list_of}
use Rattle.sw_tree.specs.SameMeaning.{TellsSame, HashesAlike}
use Rattle.sw_tree.specs.Laws.Meaning.{parts-meanings}

module _ {T : Type 0} (P : Meaning → Type 0) (f : T → Meaning) where
  each_part : (xs : List T) → IsListOf P (list_meaning f xs) → Each P (map f xs)
  each_part xs h = subst (Each P) (parts-meanings (map f xs)) h

  same_parts : (xs ys : List T) → list_meaning f xs ≡ list_meaning f ys → map f xs ≡ map f ys
  same_parts xs ys e = sym (parts-meanings (map f xs)) ∙ ap list_of e ∙ parts-meanings (map f ys)

  module _ (eq : T → T → Bool) (s : TellsSame P f eq) where
    items_same : (xs ys : List T) → Each P (map f xs) → Each P (map f ys) → Decides (pointwise eq xs ys) (map f xs ≡ map f ys)
    items_same [] [] h k = (λ e. refl, λ e. refl)
    items_same [] (y ∷ ys) h k = (λ e. absurd (cc), λ e. absurd (cc))
    items_same (x ∷ xs) [] h k = (λ e. absurd (cc), λ e. absurd (cc))
    items_same (x ∷ xs) (y ∷ ys) h k =
        let a = s x y h.0 k.0 in
        let b = items_same xs ys h.1 k.1 in (
          λ e i. a.0 (first_so (eq x y) (pointwise eq xs ys) e) i ∷ b.0 (second_so (eq x y) (pointwise eq xs ys) e) i,
          λ e i. a.1 (cc e) i && b.1 (cc e) i,
        )

    pub lists_same : (xs ys : List T) → IsListOf P (list_meaning f xs) → IsListOf P (list_meaning f ys) → Decides (pointwise eq xs ys) (list_meaning f xs ≡ list_meaning f ys)
    lists_same xs ys h k =
        let a = items_same xs ys (each_part xs h) (each_part ys k) in
        (λ e. ap (λ l. list (meanings l)) (a.0 e), λ e. a.1 (same_parts xs ys e))

    pub arrays_same : (n : ℕ) → TellsSame (IsArrayOf P n) (list_meaning f) (pointwise eq)
    arrays_same n xs ys h k = lists_same xs ys h.0 k.0

  module _ (F : T → HashWrites) (a : HashesAlike P f F) where
    items_alike : (xs ys : List T) → Each P (map f xs) → map f xs ≡ map f ys → (length xs ≡ length ys) × (flat_map F xs ≡ flat_map F ys)
    items_alike [] [] h e = (refl, refl)
    items_alike [] (y ∷ ys) h e = absurd (cc)
    items_alike (x ∷ xs) [] h e = absurd (cc)
    items_alike (x ∷ xs) (y ∷ ys) h e =
        let b = items_alike xs ys h.1 (cc e) in
        (ap suc b.0, λ i. a x y h.0 (cc e) i ++ b.1 i)

    pub lists_alike : (xs ys : List T) → IsListOf P (list_meaning f xs) → list_meaning f xs ≡ list_meaning f ys → fed.slice F xs ≡ fed.slice F ys
    lists_alike xs ys h e =
        let b = items_alike xs ys (each_part xs h) (same_parts xs ys e) in
        λ i. fed.usize (b.0 i) ++ b.1 i

    pub arrays_alike : (n : ℕ) → HashesAlike (IsArrayOf P n) (list_meaning f) (fed.slice F)
    arrays_alike n xs ys h e = lists_alike xs ys h.0 e
