-- A refusal at a node itself lies in it.
use Rattle.std.specs.Prelude.{◌<◌}
use Rattle.std.proofs.Common.{arith}
use Rattle.sw_tree.specs.Tree.{Tree, size}
use Rattle.sw_tree.specs.Tree as tree
use Rattle.sw_tree.specs.declared.mode.Mode.{Mode}
use Rattle.sw_elem.specs.Equations.{own_spot}

pub own_spot-inside : (m : Mode) (t : Tree) → own_spot m t < size t
own_spot-inside m tree.null = omega arith
own_spot-inside m (tree.truth b) = omega arith
own_spot-inside m (tree.int n) = omega arith
own_spot-inside m (tree.text s) = omega arith
own_spot-inside m (tree.bytes s) = omega arith
own_spot-inside m (tree.list ts) = omega arith
own_spot-inside m (tree.map es) = omega arith
