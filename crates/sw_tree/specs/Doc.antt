-- What a document means.
use Rattle.std.specs.Prelude.{ℕ}
use Rattle.sw_tree.specs.Tree.{Tree}

-- its tree, and how many bytes stand in the text beside the input
pub record Document : Type 0 where
  pub tree : Tree
  pub side_len : ℕ
