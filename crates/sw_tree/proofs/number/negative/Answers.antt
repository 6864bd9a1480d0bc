use Rattle.std.proofs.Common.{◌≡◌, pos, arith}
use Rattle.std.specs.Prelude.{neg_ℤ}
use Rattle.std.proofs.lemmas.Int.{ints}
use Rattle.sw_tree.proofs.NumberLemmas.{negative_number}
use Rattle.sw_tree.proofs.number.negative.Goals as goal

pub returns : goal.returns
returns c =
    let h = c.in_ok-size.ensures in
    let z : c.from_i128.result ≡ neg_ℤ (pos c.in_ok-size.size) = omega (arith, ints, c.from_i128.ensures, c.if-size-eq0.false, c.if-size.false) in
    negative_number c.args.int.now c.in_ok-size.size c.from_i128.result h.0.int h.1 c.if-size-eq0.false c.if-size.false z
