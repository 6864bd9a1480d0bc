-- Which bytes are a text of the compact wire.
use Rattle.std.specs.Prelude.{◌≡◌, ℕ, List, Result, Ok, Err, IfSome, Vec}
use Rattle.std.specs.declared.alloc.Global.{Global}
use Rattle.sw_tree.specs.Answered.{wire_cause}
use Rattle.sw_tree.specs.declared.fail.WireError.{WireError}
use Rattle.sw_tree.specs.Tree.{Tree}
use Rattle.sw_tree.specs.Proper.{IsProper}
use Rattle.sw_tree.specs.Short.{IsShort}
use Rattle.sw_compact.specs.Spelling.{text_by}
use Rattle.sw_compact.specs.declared.version.Version.{Version}
use Rattle.sw_compact.specs.declared.version.Version.TheVariants.{Two}

-- The bytes are the text of a tree in either version.
pub record IsText (b : List ℕ) : Type 0 where
  pub version : Version
  pub tree : Tree
  pub proper : IsProper tree
  pub short : IsShort tree
  pub spelled : b ≡ text_by version tree

-- the text of version 2 of the tree exactly where there is one, the error exactly where it is that one, or want of memory
abbrev pub IsUpgraded : Result (Vec ℕ Global) WireError → Result Tree WireError → Type 0
IsUpgraded (Ok text) (Ok t) = text.items ≡ text_by Two t
IsUpgraded (Ok text) (Err e) = ⊥
IsUpgraded (Err e) r = IfSome (wire_cause e) (λ c. r ≡ Err c)
