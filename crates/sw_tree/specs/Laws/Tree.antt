-- The lists of a tree's parts and its own rows of parts are each other's.
use Rattle.std.specs.Prelude.{List, [], ◌∷◌, ◌≡◌}
use Rattle.std.proofs.Common.{refl, ap}
use Rattle.sw_tree.specs.Tree.{Tree, trees, items, entries, pairs}

pub items-trees : (ts : List Tree) → items (trees ts) ≡ ts
items-trees [] = refl
items-trees (t ∷ ts) = ap (λ r. t ∷ r) (items-trees ts)

pub pairs-entries : (es : List (Tree × Tree)) → pairs (entries es) ≡ es
pairs-entries [] = refl
pairs-entries (e ∷ es) = ap (λ r. e ∷ r) (pairs-entries es)
