use Rattle.std.proofs.Common.{ap, Ok, arith, ◌∷◌, [], ◌∙◌}
use Rattle.sw_tree.specs.Tree.{truth}
use Rattle.sw_compact.proofs.Pieces.{truth-spelled}
use Rattle.sw_compact.proofs.Marks.{put_there, counts_on, laid-put}
use Rattle.sw_compact.proofs.writer.CompactWriterBuilds.bool.Goals as goal

pub with-self-inside-requires : goal.with-self-inside-requires
with-self-inside-requires c =
    counts_on _ _ (c.truth_tag.result ∷ []) _ _ c.append_byte.new.out c.self.invariant c.in_ok-append_byte.ensures (omega arith)

pub invariant_of-self-2 : goal.invariant_of-self-2
invariant_of-self-2 c =
    laid-put _ _ _ (c.truth_tag.result ∷ []) _ _ _ 0 c.self.invariant c.in_ok-append_byte.ensures c.with-self-inside.ensures (omega arith) (omega arith)

pub returns : goal.returns
returns c =
    ap Ok (put_there _ _ _ (c.truth_tag.result ∷ []) _ _ _ (truth c.args.value) _ c.self.invariant c.self.view_is c.in_ok-append_byte.ensures c.with-self-inside.ensures (ap (λ x. x ∷ []) c.truth_tag.ensures ∙ truth-spelled c.self.inside.version c.args.value))
