-- A reader that takes a node for what it stands for.
use Rattle.std.specs.Prelude.{Option, Result}
use Rattle.std.specs.Option.{ok_or}
use Rattle.sw_tree.specs.Tree.{Tree, kind_of}
use Rattle.sw_tree.specs.declared.fail.DeError.{DeError}
use Rattle.sw_tree.specs.declared.fail.DeError.TheVariants as fail

-- what the node stands for; one that stands for nothing isn't taken, since it has the wrong kind
abbrev pub takes : {A : Type 0} → (Tree → Option A) → Tree → Result A DeError
takes at t = ok_or (at t) (fail.InvalidType (kind_of t))
