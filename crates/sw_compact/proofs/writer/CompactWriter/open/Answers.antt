use Rattle.std.proofs.Common.{reverse, subst, sym}
use Rattle.sw_compact.specs.Inner.Written.{AreLaid}
use Rattle.sw_compact.proofs.Marks.{laid-more, refused-kept}
use Rattle.sw_compact.proofs.writer.CompactWriter.open.Goals as goal

pub invariant_of-self-then-is_err : goal.invariant_of-self-then-is_err
invariant_of-self-then-is_err c =
    let v = c.self.inside.version in
    let o = c.self.inside.top in
    let there = laid-more v _ _ o _ c.self.invariant in
    let here = subst (λ b. AreLaid v b o (reverse c.self.inside.outer.items)) (sym c.in_ok-push_head.ensures) there in
    subst (λ os. AreLaid v c.push_head.new.out.items o (reverse os)) (sym (refused-kept c.push.result _ _ _ _ c.is_err.ensures.value c.if-is_err.true c.push.ensures.items)) here
