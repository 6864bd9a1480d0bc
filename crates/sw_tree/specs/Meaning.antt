-- What a value means, as plain data: nothing, a truth value, a whole number, a text, a tree, a list of meanings, or a numbered case with a meaning.
use Rattle.std.specs.Prelude.{ℕ, ℤ, List, Bool, [], ◌∷◌}
use Rattle.sw_tree.specs.Tree.{Tree}

mutual
  pub data Meaning : Type 0 where
    nothing : Meaning
    truth : Bool → Meaning
    number : ℤ → Meaning
    text : List ℕ → Meaning
    tree : Tree → Meaning
    list : Meanings → Meaning
    case : ℕ → Meaning → Meaning

  pub data Meanings : Type 0 where
    no_meanings : Meanings
    meaning : Meaning → Meanings → Meanings

abbrev pub meanings : List Meaning → Meanings
meanings [] = no_meanings
meanings (v ∷ vs) = meaning v (meanings vs)

abbrev pub parts : Meanings → List Meaning
parts no_meanings = []
parts (meaning v vs) = v ∷ parts vs
