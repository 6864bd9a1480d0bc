-- The lists and arrays in hand mean lists of what their items mean.
use Rattle.std.specs.Prelude.{List, map, ◌≡◌, suc, [], ◌∷◌, length, ℕ}
use Rattle.std.proofs.Common.{ap, ◌∙◌}
use Rattle.sw_tree.specs.Meaning.{Meaning, meanings, parts}
use Rattle.sw_tree.specs.Steps.{Each}
use Rattle.sw_tree.specs.Meant.{list_meaning, IsListOf, IsArrayOf}
use Rattle.sw_tree.specs.Laws.Meaning.{parts-meanings}

pub list_meaning-is : {T : Type 0} (f : T → Meaning) (P : Meaning → Type 0) (xs : List T) → Each P (map f xs) → IsListOf P (list_meaning f xs)
list_meaning-is f P xs h = rw (parts-meanings (map f xs)) h

same_length : {T : Type 0} (f : T → Meaning) (xs : List T) → length (parts (meanings (map f xs))) ≡ length xs
same_length f [] = ap length (parts-meanings [])
same_length f (x ∷ xs) = ap suc (same_length f xs)

pub array_meaning-is : {T : Type 0} (f : T → Meaning) (P : Meaning → Type 0) (n : ℕ) (xs : List T) → Each P (map f xs) → length xs ≡ n → IsArrayOf P n (list_meaning f xs)
array_meaning-is f P n xs h e = (list_meaning-is f P xs h, same_length f xs ∙ e)
