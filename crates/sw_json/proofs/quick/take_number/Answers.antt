use Rattle.std.proofs.Common.{ℤ, ap, ◌∙◌, rules}
use Rattle.std.proofs.lemmas.Int.{to_z-of_z}
use Rattle.std.specs.Prelude.{reverse}
use mir.Syntax.{w64}
use mir.Val.{SFits}
use Rattle.sw_tree.specs.Tree.{int}
use Rattle.sw_tree.specs.Builder.{added}
use Rattle.sw_json.proofs.Taking.{number_can, number_unbuilt, number_took}
use Rattle.sw_json.proofs.quick.take_number.Goals as goal

pub returns-then-is_some : goal.returns-then-is_some
returns-then-is_some c = number_unbuilt c.args.at c.args.place (reverse c.args.levels.now.items) c.args.bytes.now c.in-Some-short_number.value c.in-Some-short_number.behind.now c.args.fault c.args.builder.now c.in-Some.next c.requires.can c.in-Some-short_number.ensures c.in-Some.ensures c.if-is_some.ensures

pub small-requires : goal.small-requires
small-requires c = record { no_root = (number_can c.args.at c.args.place (reverse c.args.levels.now.items) c.args.bytes.now c.in-Some-short_number.value c.in-Some-short_number.behind.now c.args.fault c.args.builder.now c.in-Some.next c.requires.can c.in-Some-short_number.ensures c.in-Some.ensures c.if-is_some.ensures).no_root }

pub returns : goal.returns
returns c =
    let fits : SFits w64 c.in-Some-short_number.value = search rules in
    number_took c.args.at c.args.place (reverse c.args.levels.now.items) c.args.bytes.now c.in-Some-short_number.value c.in-Some-short_number.behind.now c.args.fault c.args.builder.now c.in-Some.next c.requires.can c.in-Some-short_number.ensures c.in-Some.ensures c.small.new.self c.if-is_some.ensures (c.in_ok-small.ensures.ok ∙ ap (λ (z : ℤ). added c.args.builder.now (int z)) (to_z-of_z w64 c.in-Some-short_number.value fits))
