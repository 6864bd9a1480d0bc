use Rattle.std.proofs.Common.{ap, Ok, arith}
use Rattle.sw_tree.specs.Tree.{int}
use Rattle.sw_compact.specs.Inner.Appended.{number_bytes}
use Rattle.sw_compact.proofs.Pieces.{number-spelled, some_number}
use Rattle.sw_compact.proofs.Marks.{put_there, counts_on, laid-put}
use Rattle.sw_compact.proofs.writer.CompactWriterBuilds.int.Goals as goal

pub with-self-inside-requires : goal.with-self-inside-requires
with-self-inside-requires c =
    counts_on _ _ (number_bytes c.args.value) _ _ c.push_int.new.out c.self.invariant c.in_ok-push_int.ensures (some_number c.args.value)

pub invariant_of-self-2 : goal.invariant_of-self-2
invariant_of-self-2 c =
    laid-put _ _ _ (number_bytes c.args.value) _ _ _ 0 c.self.invariant c.in_ok-push_int.ensures c.with-self-inside.ensures (some_number c.args.value) (omega arith)

pub returns : goal.returns
returns c =
    ap Ok (put_there _ _ _ (number_bytes c.args.value) _ _ _ (int c.args.value) _ c.self.invariant c.self.view_is c.in_ok-push_int.ensures c.with-self-inside.ensures (number-spelled c.self.inside.version c.args.value))
