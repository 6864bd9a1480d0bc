use Rattle.std.proofs.Common.{refl, ap, Ok, arith, [], ◌∷◌}
use Rattle.sw_tree.specs.Tree.{null}
use Rattle.sw_compact.proofs.Marks.{put_there, counts_on, laid-put}
use Rattle.sw_compact.proofs.writer.CompactWriterBuilds.null.Goals as goal

pub with-self-inside-requires : goal.with-self-inside-requires
with-self-inside-requires c = counts_on _ _ (0 ∷ []) _ _ c.append_byte.new.out c.self.invariant c.in_ok-append_byte.ensures (omega arith)

pub invariant_of-self-2 : goal.invariant_of-self-2
invariant_of-self-2 c = laid-put _ _ _ (0 ∷ []) _ _ _ 0 c.self.invariant c.in_ok-append_byte.ensures c.with-self-inside.ensures (omega arith) (omega arith)

pub returns : goal.returns
returns c = ap Ok (put_there _ _ _ (0 ∷ []) _ _ _ null _ c.self.invariant c.self.view_is c.in_ok-append_byte.ensures c.with-self-inside.ensures refl)
