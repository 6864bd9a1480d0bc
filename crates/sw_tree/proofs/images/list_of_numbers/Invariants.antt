use Rattle.std.proofs.Common.{◌≡◌, ℕ, pos, map, take}
use Rattle.sw_tree.specs.Tree.{int}
use Rattle.sw_tree.proofs.images.list_of_numbers.Given as goal

abbrev pub invariant-loop-byte : goal.invariant-loop-byte
invariant-loop-byte l = l.items.items ≡ map (λ (b : ℕ). int (pos b)) (take l.byte-index l.bytes)
