use Rattle.std.proofs.Common.{arith}
use Rattle.std.specs.Prelude.{reverse}
use Rattle.sw_json.proofs.Taking.{text_can, text_unbuilt, text_took}
use Rattle.sw_json.proofs.quick.take_text.Goals as goal

pub returns-then-is_some : goal.returns-then-is_some
returns-then-is_some c = text_unbuilt c.args.at c.args.place (reverse c.args.levels.now.items) c.args.bytes.now c.in-Some-split_ascii_text.text.now c.in-Some-split_ascii_text.behind.now c.args.fault c.args.builder.now c.in-Some.next c.requires.can c.in-Some-split_ascii_text.ensures.front c.in-Some-split_ascii_text.ensures.behind c.in-Some-split_ascii_text.ensures.utf8 c.in-Some.ensures c.if-is_some.ensures

pub overflow_add-start : goal.overflow_add-start
overflow_add-start c = let k = text_can c.args.at c.args.place (reverse c.args.levels.now.items) c.args.bytes.now c.in-Some-split_ascii_text.text.now c.in-Some-split_ascii_text.behind.now c.args.fault c.args.builder.now c.in-Some.next c.requires.can c.in-Some-split_ascii_text.ensures.front c.in-Some-split_ascii_text.ensures.behind c.in-Some-split_ascii_text.ensures.utf8 c.in-Some.ensures c.if-is_some.ensures in omega (arith, k.fits.room)

pub overflow_add-start-2 : goal.overflow_add-start-2
overflow_add-start-2 c = let k = text_can c.args.at c.args.place (reverse c.args.levels.now.items) c.args.bytes.now c.in-Some-split_ascii_text.text.now c.in-Some-split_ascii_text.behind.now c.args.fault c.args.builder.now c.in-Some.next c.requires.can c.in-Some-split_ascii_text.ensures.front c.in-Some-split_ascii_text.ensures.behind c.in-Some-split_ascii_text.ensures.utf8 c.in-Some.ensures c.if-is_some.ensures in omega (arith, k.fits.room)

pub text-requires-clause-no_root : goal.text-requires-clause-no_root
text-requires-clause-no_root c = (text_can c.args.at c.args.place (reverse c.args.levels.now.items) c.args.bytes.now c.in-Some-split_ascii_text.text.now c.in-Some-split_ascii_text.behind.now c.args.fault c.args.builder.now c.in-Some.next c.requires.can c.in-Some-split_ascii_text.ensures.front c.in-Some-split_ascii_text.ensures.behind c.in-Some-split_ascii_text.ensures.utf8 c.in-Some.ensures c.if-is_some.ensures).no_root

pub text-requires-clause-inside : goal.text-requires-clause-inside
text-requires-clause-inside c = (text_can c.args.at c.args.place (reverse c.args.levels.now.items) c.args.bytes.now c.in-Some-split_ascii_text.text.now c.in-Some-split_ascii_text.behind.now c.args.fault c.args.builder.now c.in-Some.next c.requires.can c.in-Some-split_ascii_text.ensures.front c.in-Some-split_ascii_text.ensures.behind c.in-Some-split_ascii_text.ensures.utf8 c.in-Some.ensures c.if-is_some.ensures).fits.inside

pub text-requires-clause-utf8 : goal.text-requires-clause-utf8
text-requires-clause-utf8 c = let k = text_can c.args.at c.args.place (reverse c.args.levels.now.items) c.args.bytes.now c.in-Some-split_ascii_text.text.now c.in-Some-split_ascii_text.behind.now c.args.fault c.args.builder.now c.in-Some.next c.requires.can c.in-Some-split_ascii_text.ensures.front c.in-Some-split_ascii_text.ensures.behind c.in-Some-split_ascii_text.ensures.utf8 c.in-Some.ensures c.if-is_some.ensures in rw k.fits.part k.fits.utf8

pub returns : goal.returns
returns c = text_took c.args.at c.args.place (reverse c.args.levels.now.items) c.args.bytes.now c.in-Some-split_ascii_text.text.now c.in-Some-split_ascii_text.behind.now c.args.fault c.args.builder.now c.in-Some.next c.requires.can c.in-Some-split_ascii_text.ensures.front c.in-Some-split_ascii_text.ensures.behind c.in-Some-split_ascii_text.ensures.utf8 c.in-Some.ensures c.text.new.self c.if-is_some.ensures c.in_ok-text.ensures.ok
