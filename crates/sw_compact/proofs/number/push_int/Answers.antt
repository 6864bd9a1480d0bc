use Rattle.std.proofs.Common.{subst, rules, ◌∙◌}
use Rattle.std.proofs.lemmas.Int.{to_z-of_z}
use Rattle.std.specs.Int.{w128}
use mir.Val.{SFits}
use Rattle.sw_compact.specs.Inner.Appended.{IsAppended, number_bytes}
use Rattle.sw_compact.proofs.Signs.{signed-is}
use Rattle.sw_compact.proofs.number.push_int.Goals as goal

pub returns : goal.returns
returns c =
    let k = c.push_signed-in-Some-to_i128 in
    let z = c.in-Some-to_i128.negative in
    let f : SFits w128 z = search rules in
    subst (λ x. IsAppended k.result c.args.out.now.items k.new.out.items (number_bytes x)) (to_z-of_z w128 z f ∙ signed-is 127 z c.args.value c.in-Some-to_i128.ensures) k.ensures
