use Rattle.std.specs.Prelude.{reverse}
use Rattle.sw_json.proofs.Taking.{closing_can, closing_unbuilt, closing_took}
use Rattle.sw_json.proofs.quick.take_closing.Goals as goal

pub close-requires : goal.close-requires
close-requires c = closing_can c.args.at c.args.place (reverse c.args.levels.now.items) c.args.kind c.args.bytes.now c.args.fault c.args.builder.now c.in-Some.next c.requires.can c.in-Some.ensures c.if-is_some.ensures

pub returns-then-is_some : goal.returns-then-is_some
returns-then-is_some c = closing_unbuilt c.args.at c.args.place (reverse c.args.levels.now.items) c.args.kind c.args.bytes.now c.args.fault c.args.builder.now c.in-Some.next c.requires.can c.in-Some.ensures (reverse c.leave.new.levels.items) c.if-is_some.ensures c.leave.ensures

pub returns : goal.returns
returns c = closing_took c.args.at c.args.place (reverse c.args.levels.now.items) c.args.kind c.args.bytes.now c.args.fault c.args.builder.now c.in-Some.next c.requires.can c.in-Some.ensures (reverse c.leave.new.levels.items) c.close.new.self c.leave.ensures c.in_ok-close.ensures.ok
