use Rattle.std.proofs.Common.{refl, arith, subst, ◌<◌, ◌^◌, length}
use Rattle.std.specs.Str.{IsUtf8}
use Rattle.sw_tree.proofs.node.Node.text.Goals as goal

pub invariant_of-result : goal.invariant_of-result
invariant_of-result c =
    let fits : length c.as_str-text.result.now < 2 ^ 64 = omega arith in
    (refl, refl, omega arith, subst IsUtf8 c.as_str-text.ensures.value c.as_str-text.utf8, subst (λ s. length s < 2 ^ 64) c.as_str-text.ensures.value fits)
