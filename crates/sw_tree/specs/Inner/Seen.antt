-- How the logic stores what a view shows.
use Rattle.std.specs.Prelude.{List, [], ◌∷◌, ℕ, Bool, refl}
use Rattle.std.specs.Coded.{Coded, code_by, coded×, coded_ℕ, coded_bool}
use Rattle.sw_tree.specs.Tree.{Tree}
use Rattle.sw_tree.specs.Seen.{Seen}
use Rattle.sw_tree.specs.Inner.TreeCode.{coded_tree}

-- what is shown, without the places
abbrev pub trees_of : List Seen → List Tree
trees_of [] = []
trees_of (s ∷ ss) = s.tree ∷ trees_of ss

abbrev pub pairs_of : List (Seen × Seen) → List (Tree × Tree)
pairs_of [] = []
pairs_of (e ∷ es) = (e.0.tree, e.1.tree) ∷ pairs_of es

abbrev pub coded_seen : Coded Seen
coded_seen = code_by (Tree × (ℕ × Bool)) (coded× coded_tree (coded× coded_ℕ coded_bool)) (λ s. (s.tree, (s.place, s.counts))) (λ p. record { tree = p.0; place = p.1.0; counts = p.1.1 }) (λ _. refl)
