-- A list of meanings and its parts are each other's.
use Rattle.std.specs.Prelude.{◌≡◌, List, [], ◌∷◌}
use Rattle.std.proofs.Common.{refl, ap}
use Rattle.sw_tree.specs.Meaning.{Meaning, meanings, parts, no_meanings, meaning, Meanings}

pub parts-meanings : (vs : List Meaning) → parts (meanings vs) ≡ vs
parts-meanings [] = refl
parts-meanings (v ∷ vs) = ap (λ r. v ∷ r) (parts-meanings vs)

pub meanings-parts : (vs : Meanings) → meanings (parts vs) ≡ vs
meanings-parts no_meanings = refl
meanings-parts (meaning v vs) = ap (λ r. meaning v r) (meanings-parts vs)
