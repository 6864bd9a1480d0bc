use Rattle.sw_compact.proofs.Closing.{closed-deep, some-around, laid-inside, around-popped, counts_around, laid-around, closed-around}
use Rattle.sw_compact.proofs.writer.CompactWriterBuilds.close.Goals as goal

pub returns-then-self-ge128 : goal.returns-then-self-ge128
returns-then-self-ge128 c =
    closed-deep _ _ _ _ _ (some-around c.self.inside.outer.items _ _ c.self.inside.outer.ok.0 c.is_empty.ensures c.if-is_empty.false) c.if-self-ge128.true c.self.view_is

pub settle-requires : goal.settle-requires
settle-requires c =
    laid-inside _ _ _ _ (some-around c.self.inside.outer.items _ _ c.self.inside.outer.ok.0 c.is_empty.ensures c.if-is_empty.false) c.self.invariant

pub with-self-inside-requires : goal.with-self-inside-requires
with-self-inside-requires c =
    counts_around _ _ _ _ _ _ c.settle.new.out (around-popped c.self.inside.outer.items c.pop.new.self.items c.in-Some.around c.in-Some.ensures.items) c.self.invariant c.in_ok-settle.ensures

pub invariant_of-self-2 : goal.invariant_of-self-2
invariant_of-self-2 c =
    laid-around _ _ _ _ _ _ _ _ (around-popped c.self.inside.outer.items c.pop.new.self.items c.in-Some.around c.in-Some.ensures.items) c.self.invariant c.in_ok-settle.ensures c.with-self-inside.ensures c.if-self-ge128.false

pub returns : goal.returns
returns c =
    closed-around _ _ _ _ _ _ _ _ _ (around-popped c.self.inside.outer.items c.pop.new.self.items c.in-Some.around c.in-Some.ensures.items) c.self.invariant c.self.view_is c.in_ok-settle.ensures c.with-self-inside.ensures c.if-self-ge128.false
