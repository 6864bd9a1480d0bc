-- Children by turns, and what stands around them.
use Rattle.std.proofs.Common.{◌≡◌, ◌≤◌, ◌<◌, List, ◌∷◌, refl, Option, Some, None, Ok, Err}
use Rattle.std.proofs.lemmas.Bool.{le-leb, lt-leb}
use Rattle.std.proofs.lemmas.List.{reverse-append}
use Rattle.sw_tree.specs.Building.{within}
use Rattle.sw_tree.specs.Tree.{Tree, depth}
use Rattle.sw_tree.specs.declared.fail.SerError.TheVariants as reason

pub within_fits : (t : Tree) → depth t ≤ 128 → within t ≡ Ok t
within_fits t h = rw (le-leb (depth t) 128 h) refl

pub within_above : (t : Tree) → 128 < depth t → within t ≡ Err reason.TooDeep
within_above t h = rw (lt-leb (depth t) 128 h) refl

pub ruleset turning = (reverse-append, within_fits, within_above)

-- a key that waits, and what comes behind it
abbrev pub with_waiting : Option Tree → List Tree → List Tree
with_waiting None ts = ts
with_waiting (Some k) ts = k ∷ ts
