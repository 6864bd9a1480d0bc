-- The item that a collection is written as, where it is written as no list.
use Rattle.std.specs.Prelude.{Bool, true, false, List, [], ◌∷◌, Option, Some, None}

-- the only one, where one is to stand alone
abbrev pub lone_of : {T : Type 0} → Bool → List T → Option T
lone_of false xs = None
lone_of true [] = None
lone_of true (x ∷ []) = Some x
lone_of true (x ∷ y ∷ xs) = None
