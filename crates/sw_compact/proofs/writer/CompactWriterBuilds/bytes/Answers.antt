use Rattle.std.proofs.Common.{ap, Ok, arith}
use Rattle.sw_tree.specs.Tree.{bytes}
use Rattle.sw_compact.proofs.Pieces.{content, bytes-spelled, some_content}
use Rattle.sw_compact.proofs.Marks.{put_there, counts_on, laid-put}
use Rattle.sw_compact.proofs.writer.CompactWriterBuilds.bytes.Goals as goal

pub with-self-inside-requires : goal.with-self-inside-requires
with-self-inside-requires c =
    counts_on _ _ (content c.self.inside.version 6 c.args.value.now) _ _ c.push_content.new.out c.self.invariant c.in_ok-push_content.ensures (some_content c.self.inside.version 6 c.args.value.now)

pub invariant_of-self-2 : goal.invariant_of-self-2
invariant_of-self-2 c =
    laid-put _ _ _ (content c.self.inside.version 6 c.args.value.now) _ _ _ 1 c.self.invariant c.in_ok-push_content.ensures c.with-self-inside.ensures (some_content c.self.inside.version 6 c.args.value.now) (omega arith)

pub returns : goal.returns
returns c =
    ap Ok (put_there _ _ _ (content c.self.inside.version 6 c.args.value.now) _ _ _ (bytes c.args.value.now) _ c.self.invariant c.self.view_is c.in_ok-push_content.ensures c.with-self-inside.ensures (bytes-spelled c.self.inside.version c.args.value.now))
