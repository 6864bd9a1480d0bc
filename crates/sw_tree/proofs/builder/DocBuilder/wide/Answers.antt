use Rattle.std.proofs.Common.{ap, ◌∙◌, reverse, arith}
use Rattle.sw_tree.specs.Tree.{int}
use Rattle.sw_tree.specs.Inner.Cells.{Store}
use Rattle.sw_tree.specs.Builder.{Built, added}
use Rattle.sw_tree.proofs.BuilderLemmas.{kids_le, kept_wide, longer-none, stands}
use Rattle.sw_tree.proofs.builder.DocBuilder.wide.Goals as goal

pub overflow_add-self : goal.overflow_add-self
overflow_add-self c =
    let a = c.self.inside in
    omega (arith, kids_le _ (reverse a.opens.items) a.cells.items a.kids c.self.invariant.stacked, c.in_default.ensures.few)

pub invariant_of-self-2 : goal.invariant_of-self-2
invariant_of-self-2 c =
    let a = c.self.inside in
    let s : Store = record { input = a.input.now; side = a.side.items; wides = a.wides.items } in
    let h = kept_wide s c.args.value (reverse a.opens.items) a.cells.items a.kids c.in_ok-index.index (omega arith) c.requires.range c.self.invariant.stacked (ap (λ (b : Built). b.root) c.self.view_is ∙ c.requires.no_root) in
    rw (c.in_ok-push.ensures.items, c.in_default.ensures.ok) (stands _ (reverse a.opens.items) a.cells.items _ _ h.stacked c.in_default.ensures.few)

pub returns-clause-ok : goal.returns-clause-ok
returns-clause-ok c =
    let a = c.self.inside in
    let s : Store = record { input = a.input.now; side = a.side.items; wides = a.wides.items } in
    let h = kept_wide s c.args.value (reverse a.opens.items) a.cells.items a.kids c.in_ok-index.index (omega arith) c.requires.range c.self.invariant.stacked (ap (λ (b : Built). b.root) c.self.view_is ∙ c.requires.no_root) in
    rw (c.in_ok-push.ensures.items, c.in_default.ensures.ok)
    (h.means ∙ ap (λ (b : Built). added b (int c.args.value)) (longer-none _ ∙ c.self.view_is))
