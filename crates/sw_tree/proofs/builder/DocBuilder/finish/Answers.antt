use Rattle.std.proofs.Common.{ap, ◌∙◌, reverse}
use Rattle.std.specs.Prelude.{is_some, Some}
use Rattle.sw_tree.specs.Builder.{Built}
use Rattle.sw_tree.specs.Doc.{Document}
use Rattle.sw_tree.proofs.BuilderLemmas.{finishing}
use Rattle.sw_tree.proofs.builder.DocBuilder.finish.Goals as goal

pub from_cells-requires : goal.from_cells-requires
from_cells-requires c =
    let a = c.self.inside in
    let f = finishing _ (reverse a.opens.items) a.cells.items a.kids c.self.invariant.stacked (ap (λ (b : Built). is_some b.root) c.self.view_is ∙ c.requires.root) in
    record { formed = f.formed; some = f.some; few = c.self.invariant.few }

pub returns-clause-tree : goal.returns-clause-tree
returns-clause-tree c =
    let a = c.self.inside in
    let f = finishing _ (reverse a.opens.items) a.cells.items a.kids c.self.invariant.stacked (ap (λ (b : Built). is_some b.root) c.self.view_is ∙ c.requires.root) in
    ap (λ (d : Document). Some d.tree) c.from_cells.ensures ∙ f.means ∙ ap (λ (b : Built). b.root) c.self.view_is
