use Rattle.std.proofs.Common.{ap, Ok, arith}
use Rattle.sw_tree.specs.Tree.{text}
use Rattle.sw_compact.proofs.Pieces.{content, text-spelled, some_content}
use Rattle.sw_compact.proofs.Marks.{put_there, counts_on, laid-put}
use Rattle.sw_compact.proofs.writer.CompactWriterBuilds.text.Goals as goal

pub with-self-inside-requires : goal.with-self-inside-requires
with-self-inside-requires c =
    counts_on _ _ (content c.self.inside.version 5 c.as_bytes.result.now) _ _ c.push_content.new.out c.self.invariant c.in_ok-push_content.ensures (some_content c.self.inside.version 5 c.as_bytes.result.now)

pub invariant_of-self-2 : goal.invariant_of-self-2
invariant_of-self-2 c =
    laid-put _ _ _ (content c.self.inside.version 5 c.as_bytes.result.now) _ _ _ 0 c.self.invariant c.in_ok-push_content.ensures c.with-self-inside.ensures (some_content c.self.inside.version 5 c.as_bytes.result.now) (omega arith)

pub returns : goal.returns
returns c =
    ap Ok (put_there _ _ _ (content c.self.inside.version 5 c.as_bytes.result.now) _ _ _ (text c.args.value.now) _ c.self.invariant c.self.view_is c.in_ok-push_content.ensures c.with-self-inside.ensures (text-spelled c.self.inside.version c.args.value.now c.as_bytes.result.now c.as_bytes.ensures.value))
