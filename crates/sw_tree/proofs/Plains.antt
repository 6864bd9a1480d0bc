-- What a node says of its tree.
use Rattle.sw_tree.proofs.Lists.{lists}
use Rattle.sw_tree.proofs.Foreigns.{plain}

pub ruleset node_rules = (lists, plain)
