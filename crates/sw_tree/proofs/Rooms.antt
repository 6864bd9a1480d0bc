-- What a builder has room for.
use Rattle.std.proofs.Common.{◌≡◌, ℕ, ◌+◌, List, [], ◌∷◌, length, None, refl, arith}
use Rattle.std.specs.Prelude.{nat_le}
use Rattle.sw_tree.specs.declared.builder.Open.{Open}
use Rattle.sw_tree.specs.declared.cell.Cell.{Cell}
use Rattle.sw_tree.specs.Tree.{Tree}
use Rattle.sw_tree.specs.Inner.Cells.{Store, forest}
use Rattle.sw_tree.specs.Inner.Builder.{Stacked, meant, takes, root_of}
use Rattle.sw_tree.proofs.BuilderLemmas.{rootless, frames_len}

none_root : (ts : List Tree) → length ts ≡ 0 → root_of ts ≡ None
none_root [] h = refl
none_root (t ∷ ts) h = absurd (omega arith)

-- nothing is finished where something is open, or nothing was added
pub takes_open : (s : Store) (r : List Open) (cells : List Cell) (kids n : ℕ) → Stacked s r cells kids → (length r ≡ 0 → kids ≡ 0) → nat_le (length r + n) 128 ≡ takes (meant s r cells) n
takes_open s [] cells kids n h e = rw (none_root (forest s cells) (omega (arith, h.counted, e refl))) refl
takes_open s (o ∷ r) cells kids n h e = rw (rootless s o r cells kids h, frames_len s (o ∷ r) cells) refl
