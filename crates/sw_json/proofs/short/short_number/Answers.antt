use Rattle.std.proofs.Common.{◌≡◌, ℤ, pos, sym, subst, arith}
use Rattle.std.proofs.lemmas.Int.{ints}
use Rattle.std.specs.Prelude.{neg_ℤ}
use mir.Syntax.{w64}
use mir.Val.{to_z, of_z}
use lib.IntN.{◌-ℤ◌}
use Rattle.sw_json.specs.Inner.Short.{IsShort}
use Rattle.sw_json.proofs.ShortNumbers.{short_plain, short_negative}
use Rattle.sw_json.proofs.short.short_number.Goals as goal

pub returns-then-first-eq45 : goal.returns-then-first-eq45
returns-then-first-eq45 c =
    let size = c.in_ok-size.size in
    let short = c.in_ok-size.ensures in
    let same : to_z w64 (of_z w64 (pos 0 -ℤ to_z w64 size)) ≡ neg_ℤ (pos size) = omega (arith, ints, short.small) in
    subst (λ (z : ℤ). IsShort c.args.bytes.now z c.in_ok-size.behind.now) (sym same)
    (short_negative c.in_ok-first.rest.now size c.in_ok-size.behind.now short c.args.bytes.now c.in_ok-first.first.now c.in_ok-first.ensures.cases.0 c.if-first-eq45.true)

pub returns : goal.returns
returns c =
    let size = c.in_ok-size-2.size in
    let short = c.in_ok-size-2.ensures in
    let same : to_z w64 size ≡ pos size = omega (arith, ints, short.small) in
    subst (λ (z : ℤ). IsShort c.args.bytes.now z c.in_ok-size-2.behind.now) (sym same) (short_plain c.args.bytes.now size c.in_ok-size-2.behind.now short)
