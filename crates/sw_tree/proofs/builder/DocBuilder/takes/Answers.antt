use Rattle.std.proofs.Common.{◌≡◌, ◌+◌, ap, ◌∙◌, reverse, length, arith}
use Rattle.std.proofs.lemmas.List.{length-reverse}
use Rattle.std.specs.Prelude.{nat_le}
use Rattle.sw_tree.specs.Builder.{Built}
use Rattle.sw_tree.specs.Inner.Builder.{takes}
use Rattle.sw_tree.proofs.Rooms.{takes_open}
use Rattle.sw_tree.proofs.builder.DocBuilder.takes.Goals as goal
use Rattle.sw_tree.proofs.builder.DocBuilder.takes.Goals.{else-open-eq0-via-then-open-eq0+else-self-gt0, else-open-eq0-via-else-open-eq0}

pub returns : goal.returns
returns c =
    let a = c.self.inside in
    let r = reverse a.opens.items in
    let count : c.len-open.result ≡ length r = omega (arith, length-reverse a.opens.items) in
    let none : length r ≡ 0 → a.kids ≡ 0 = λ e. elim c.else-open-eq0.branch [ else-open-eq0-via-then-open-eq0+else-self-gt0 w ↦ omega arith | else-open-eq0-via-else-open-eq0 w ↦ omega arith ] in
    ap (λ n. nat_le (n + c.args.levels) 128) count ∙ takes_open _ r a.cells.items a.kids c.args.levels c.self.invariant.stacked none ∙ ap (λ (b : Built). takes b c.args.levels) c.self.view_is
