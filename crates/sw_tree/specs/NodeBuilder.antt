-- What a builder of nodes means: the innermost list or map with its finished children, and those around it, the innermost first. At the
-- outermost stand the finished roots.
use Rattle.std.specs.Prelude.{List, [], false, ◌∷◌, ◌++◌, Bool, Result, Ok}
use Rattle.sw_tree.specs.Tree.{Tree}
use Rattle.sw_tree.specs.Builder.{Frame, built_tree}
use Rattle.sw_tree.specs.Building.{within, with_put}
use Rattle.sw_tree.specs.declared.fail.SerError.{SerError}

pub record Nodes : Type 0 where
  pub top : Frame
  pub outer : List Frame

abbrev pub fresh : Nodes
fresh = record { top = record { is_map = false; children = [] }; outer = [] }

abbrev pub put : Tree → Nodes → Nodes
put t b = record { top = record { is_map = b.top.is_map; children = b.top.children ++ t ∷ [] }; outer = b.outer }

abbrev pub opened : Bool → Nodes → Nodes
opened m b = record { top = record { is_map = m; children = [] }; outer = b.top ∷ b.outer }

abbrev pub closed_to : Nodes → List Frame → Result Nodes SerError
closed_to b [] = Ok b
closed_to b (f ∷ fs) = with_put put (within (built_tree b.top.is_map b.top.children)) (record { top = f; outer = fs })

abbrev pub closed : Nodes → Result Nodes SerError
closed b = closed_to b b.outer
