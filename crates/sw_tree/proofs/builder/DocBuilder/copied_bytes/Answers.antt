use Rattle.std.proofs.Common.{ap, ◌∙◌, reverse, arith, length, length-append, ◌+◌, ◌≤◌}
use Rattle.sw_tree.specs.Tree.{bytes}
use Rattle.sw_tree.proofs.Proper.{bytes-fit}
use Rattle.sw_tree.specs.Inner.Cells.{Store}
use Rattle.sw_tree.specs.Builder.{Built, added, longer}
use Rattle.sw_tree.proofs.BuilderLemmas.{kids_le, kept_bytes, frames_len, stands}
use Rattle.sw_tree.proofs.builder.DocBuilder.copied_bytes.Goals as goal

pub overflow_add-self : goal.overflow_add-self
overflow_add-self c =
    let a = c.self.inside in
    omega (arith, kids_le _ (reverse a.opens.items) a.cells.items a.kids c.self.invariant.stacked, c.in_default.ensures.few)

pub invariant_of-self-2 : goal.invariant_of-self-2
invariant_of-self-2 c =
    let a = c.self.inside in
    let s : Store = record { input = a.input.now; side = a.side.items; wides = a.wides.items } in
    let r = reverse a.opens.items in
    let few : 1 + length r ≤ 128 = omega (arith, frames_len s r a.cells.items, ap (λ (b : Built). length b.frames) c.self.view_is, c.requires.room) in
    let h = kept_bytes s c.args.bytes.now r a.cells.items a.kids c.len-before.result (c.len-before.result + length c.args.bytes.now) (omega arith) (omega (arith, length-append a.side.items c.args.bytes.now)) few (bytes-fit c.args.bytes.now c.type_inv.bytes) c.self.invariant.stacked (ap (λ (b : Built). b.root) c.self.view_is ∙ c.requires.no_root) in
    rw (c.in_ok-extend_from_slice.ensures.items, c.in_default.ensures.ok, c.in_ok-span.ensures) (stands _ r a.cells.items _ _ h.stacked c.in_default.ensures.few)

pub returns-clause-ok : goal.returns-clause-ok
returns-clause-ok c =
    let a = c.self.inside in
    let s : Store = record { input = a.input.now; side = a.side.items; wides = a.wides.items } in
    let r = reverse a.opens.items in
    let few : 1 + length r ≤ 128 = omega (arith, frames_len s r a.cells.items, ap (λ (b : Built). length b.frames) c.self.view_is, c.requires.room) in
    let h = kept_bytes s c.args.bytes.now r a.cells.items a.kids c.len-before.result (c.len-before.result + length c.args.bytes.now) (omega arith) (omega (arith, length-append a.side.items c.args.bytes.now)) few (bytes-fit c.args.bytes.now c.type_inv.bytes) c.self.invariant.stacked (ap (λ (b : Built). b.root) c.self.view_is ∙ c.requires.no_root) in
    rw (c.in_ok-extend_from_slice.ensures.items, c.in_default.ensures.ok, c.in_ok-span.ensures) (h.means ∙ ap (λ (b : Built). added (longer b (length c.args.bytes.now)) (bytes c.args.bytes.now)) c.self.view_is)
