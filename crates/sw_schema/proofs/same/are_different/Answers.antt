use Rattle.std.proofs.Common.{◌≡◌, true, false, ap, sym, ◌∙◌}
use Rattle.sw_tree.specs.Tree.{items_at}
use Rattle.sw_schema.specs.Inner.Parts.{part_tree}
use Rattle.sw_schema.specs.Valid.{is_new, are_different}
use Rattle.sw_schema.proofs.SameLemmas.{left_next, left_after, not_new, new_first}
use Rattle.sw_schema.proofs.same.are_different.Goals as goal

pub returns-then-not-is_new : goal.returns-then-not-is_new
returns-then-not-is_new c =
    let y = part_tree c.in-Some-next.item in
    let left = c.loop-index.items in
    let new = c.next.new.self in
    let e = left_next (items_at (part_tree c.args.part)) c.loop-index.index c.in-Some-items.others y left new (sym c.in-Some-items.ensures) c.loop-index.invariant.0 c.in-Some-next.ensures.steps in
    let h : is_new y new ≡ false = ap (is_new y) (sym (c.after.ensures ∙ e)) ∙ sym c.is_new.ensures ∙ c.if-not-is_new.true in
    sym (c.loop-index.invariant.1 ∙ ap are_different c.in-Some-next.ensures.steps ∙ not_new y new h)

pub loop-index-preserved : goal.loop-index-preserved
loop-index-preserved c =
    let y = part_tree c.in-Some-next.item in
    let left = c.loop-index.items in
    let new = c.next.new.self in
    let tree = part_tree c.args.part in
    let e = left_next (items_at tree) c.loop-index.index c.in-Some-items.others y left new (sym c.in-Some-items.ensures) c.loop-index.invariant.0 c.in-Some-next.ensures.steps in
    let h : is_new y new ≡ true = ap (is_new y) (sym (c.after.ensures ∙ e)) ∙ sym c.is_new.ensures ∙ c.if-not-is_new.false in
    (left_after (items_at tree) c.loop-index.index y left new c.loop-index.invariant.0 c.in-Some-next.ensures.steps, c.loop-index.invariant.1 ∙ ap are_different c.in-Some-next.ensures.steps ∙ new_first y new h)
