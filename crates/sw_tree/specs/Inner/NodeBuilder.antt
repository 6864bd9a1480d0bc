-- How the logic stores what a builder of nodes means.
use Rattle.std.specs.Prelude.{List, Bool, refl}
use Rattle.std.specs.Coded.{Coded, code_by, coded×, coded_list, coded_bool}
use Rattle.sw_tree.specs.Tree.{Tree}
use Rattle.sw_tree.specs.Builder.{Frame}
use Rattle.sw_tree.specs.NodeBuilder.{Nodes}
use Rattle.sw_tree.specs.Inner.TreeCode.{coded_tree}

abbrev coded_frame : Coded Frame
coded_frame = code_by (Bool × List Tree) (coded× coded_bool (coded_list coded_tree)) (λ f. (f.is_map, f.children)) (λ p. record { is_map = p.0; children = p.1 }) (λ _. refl)

abbrev pub coded_nodes : Coded Nodes
coded_nodes = code_by (Frame × List Frame) (coded× coded_frame (coded_list coded_frame)) (λ b. (b.top, b.outer)) (λ p. record { top = p.0; outer = p.1 }) (λ _. refl)
