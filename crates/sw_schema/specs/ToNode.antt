-- What is told of a schema whose tree can't be made into a node.
use Rattle.std.specs.Prelude.{Option, Some, None, Result}
use Rattle.sw_tree.specs.Answered.{Answered}
use Rattle.sw_tree.specs.Building.{within}
use Rattle.sw_tree.specs.Tree.{Tree}
use Rattle.sw_tree.specs.declared.fail.SerError.{SerError}
use Rattle.sw_tree.specs.declared.fail.SerError.TheVariants as reason
use Rattle.sw_schema.specs.declared.to_node.ToNodeFail.{ToNodeFail}
use Rattle.sw_schema.specs.declared.to_node.ToNodeFail.TheVariants as fail

abbrev pub to_node_cause : ToNodeFail → Option SerError
to_node_cause fail.TooDeep = Some reason.TooDeep
to_node_cause fail.Memory = None

-- that tree, TooDeep exactly where it has more than 128 levels, or want of memory
abbrev pub IsToNode : Result Tree ToNodeFail → Tree → Type 0
IsToNode result t = Answered (λ (u : Tree). u) to_node_cause result (within t)
