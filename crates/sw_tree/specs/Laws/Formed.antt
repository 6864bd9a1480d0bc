-- That cells fit one another has one proof at most.
use Rattle.std.specs.Prelude.{List, ◌≡◌, [], ◌∷◌}
use Rattle.std.specs.Coded.{coded_list, Unit-prop, ×_prop}
use base.Stored.{Coded-set}
use Rattle.std.proofs.Props.{props}
use Rattle.sw_tree.specs.Tree.{Tree}
use Rattle.sw_tree.specs.declared.cell.Cell.{Cell}
use Rattle.sw_tree.specs.declared.cell.Cell.TheVariants.{Null, Bool, Natural, Negative, Wide, Text, Copied, Bytes, CopiedBytes, List as Items, Map}
use Rattle.sw_tree.specs.Inner.Cells.{Store, IsFine, Fits, tree_at, forest, Formed}
use Rattle.sw_tree.specs.Inner.TreeCode.{coded_tree}
use Rattle.sw_tree.specs.Laws.Proper.{IsProper-prop}

trees_set : (a b : List Tree) → IsProp (a ≡ b)
trees_set a b = Coded-set (coded_list coded_tree) a b

IsFine-prop : (s : Store) (c : Cell) → IsProp (IsFine s c)
IsFine-prop s (Wide k) = hlevel props
IsFine-prop s (Text p) = hlevel props
IsFine-prop s (Copied p) = hlevel props
IsFine-prop s (Bytes p) = hlevel props
IsFine-prop s (CopiedBytes p) = hlevel props
IsFine-prop s Null = Unit-prop
IsFine-prop s (Bool b) = Unit-prop
IsFine-prop s (Natural z) = Unit-prop
IsFine-prop s (Negative z) = Unit-prop
IsFine-prop s (Items r) = Unit-prop
IsFine-prop s (Map r) = Unit-prop

Fits-prop : (s : Store) (c : Cell) (cs : List Cell) → IsProp (Fits s c cs)
Fits-prop s c cs = let fine = IsFine-prop s c in let proper = IsProper-prop (tree_at s c (forest s cs)) in hlevel (props, fine, proper, trees_set)

pub Formed-prop : (s : Store) (cs : List Cell) → IsProp (Formed s cs)
Formed-prop s [] = Unit-prop
Formed-prop s (c ∷ cs) = ×_prop (Fits-prop s c cs) (Formed-prop s cs)
