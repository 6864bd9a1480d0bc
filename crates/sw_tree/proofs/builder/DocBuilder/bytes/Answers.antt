use Rattle.std.proofs.Common.{ap, subst, List, ℕ, ◌<◌}
use Rattle.sw_tree.specs.Steps.{Each}
use Rattle.sw_tree.proofs.Proper.{bytes-part}
use Rattle.sw_tree.specs.Builder.{Built}
use Rattle.sw_tree.proofs.builder.DocBuilder.bytes.Goals as goal

pub leaf-requires-clause-proper : goal.leaf-requires-clause-proper
leaf-requires-clause-proper c =
    rw c.in_ok-span_of.ensures (bytes-part c.args.start c.args.end c.args.self.now.input
    (subst (λ (s : List ℕ). Each (λ b. b < 256) s) (ap (λ (b : Built). b.input) c.self.view_is) c.know_bytes.ensures))
