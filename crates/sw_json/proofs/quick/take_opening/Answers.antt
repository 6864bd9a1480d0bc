use Rattle.std.proofs.Common.{◌<◌, length, arith}
use Rattle.std.proofs.lemmas.List.{length-reverse}
use Rattle.std.specs.Prelude.{reverse}
use Rattle.sw_json.proofs.Taking.{opening_can, opening_unbuilt, opening_took}
use Rattle.sw_json.proofs.quick.take_opening.Goals as goal

pub begin-requires-clause-no_root : goal.begin-requires-clause-no_root
begin-requires-clause-no_root c = (opening_can c.args.at c.args.place (reverse c.args.levels.now.items) c.args.kind c.args.bytes.now c.args.fault c.args.builder.now c.in-Some.next c.requires.can c.in-Some.ensures c.if-is_some.ensures).no_root

pub begin-requires-clause-room : goal.begin-requires-clause-room
begin-requires-clause-room c =
    let k = opening_can c.args.at c.args.place (reverse c.args.levels.now.items) c.args.kind c.args.bytes.now c.args.fault c.args.builder.now c.in-Some.next c.requires.can c.in-Some.ensures c.if-is_some.ensures in
    omega (arith, k.levels, length-reverse c.args.levels.now.items, c.len.ensures, c.if-len-ge128.false)

pub returns-then-is_some : goal.returns-then-is_some
returns-then-is_some c = opening_unbuilt c.args.at c.args.place (reverse c.args.levels.now.items) c.args.kind c.args.bytes.now c.args.fault c.args.builder.now c.in-Some.next c.requires.can c.in-Some.ensures (reverse c.enter.new.levels.items) c.if-is_some.ensures c.in_ok-enter.ensures

pub returns : goal.returns
returns c =
    let few : length (reverse c.args.levels.now.items) < 128 = omega (arith, length-reverse c.args.levels.now.items, c.len.ensures, c.if-len-ge128.false) in
    opening_took c.args.at c.args.place (reverse c.args.levels.now.items) c.args.kind c.args.bytes.now c.args.fault c.args.builder.now c.in-Some.next c.requires.can c.in-Some.ensures (reverse c.begin.new.levels.items) c.begin.new.builder few c.in_ok-begin.ensures.opens (c.in_ok-begin.ensures.built c.args.at)
