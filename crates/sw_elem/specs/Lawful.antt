-- The laws of an adapter under its expression and its norm, and those of what stands at a leaf under its facts.
use Rattle.std.specs.Prelude.{◌≡◌, true, Ok}
use Rattle.sw_tree.specs.Meaning.{Meaning}
use Rattle.sw_tree.specs.Tree.{Tree, kind_of}
use Rattle.sw_tree.specs.declared.mode.Mode.{Mode}
use Rattle.sw_tree.specs.Kinds.{has}
use Rattle.sw_check.specs.Form.{Form}
use Rattle.sw_check.specs.Facts.{claims_at, read_at}
use Rattle.sw_check.specs.declared.facts.Facts.{Facts}
use Rattle.sw_check.specs.Blame.{IsSound}
use Rattle.sw_check.specs.Kinds.{kinds_written, kinds_read}
use Rattle.sw_check.specs.Grade.{grade}
use Rattle.sw_check.specs.declared.grade.Grade.TheVariants.{Exact}
use Rattle.sw_elem.specs.Equations.{Writes, Reads, Spots, Skips}
use Rattle.sw_elem.specs.Statements.{Norm, HasImages, ReadsBack, NeverKey, IsUnmarked, IsExact, HasSpotKinds, HasNoteKinds, WritesNodes, NormsWithin}

-- that `P` are the meanings of the values, and that the laws marked so hold under what is assumed
pub record Lawful (P : Meaning → Type 0) (writes : Writes) (reads : Reads) (spot : Spots) (skips : Skips) (expr : Form) (norm : Norm) (assumes : Type 0) : Type 0 where
  -- where the expression is sound, what is written has an image,
  pub images : (m : Mode) → IsSound expr m → HasImages P writes m
  -- which is read as the norm, under what is assumed,
  pub back : assumes → (m : Mode) → IsSound expr m → ReadsBack P writes reads norm m
  -- and nothing is refused for a key without an image
  pub never_key : (m : Mode) → IsSound expr m → NeverKey P writes m
  -- trees are written, and read, of the expression's kinds alone
  pub written_kinds : (m : Mode) (v : Meaning) (t : Tree) → P v → writes m v ≡ Ok t → kinds_written expr m (kind_of t) ≡ true
  pub read_kinds : (m : Mode) (t : Tree) (v : Meaning) → reads m t ≡ Ok v → kinds_read expr m (kind_of t) ≡ true
  -- the buffered mark changes nothing that is written
  pub unmarked : IsUnmarked writes
  -- where the grade is exact, the norm changes nothing
  pub exact : (m : Mode) → grade expr m ≡ Exact → IsExact P norm m
  -- a node that is refused for its kind has that kind, and so has one that is passed over
  pub spot_kinds : (m : Mode) → HasSpotKinds reads spot m
  pub note_kinds : (m : Mode) → HasNoteKinds skips m
  -- what is written is a tree that a node can be, and the norm of a value is a value
  pub nodes : WritesNodes P writes
  pub norms : NormsWithin P norm

-- the same of what stands at a leaf: in each mode that the facts claim, whether or not a leaf with these facts is sound there
pub record LawfulLeaf (P : Meaning → Type 0) (writes : Writes) (reads : Reads) (spot : Spots) (f : Facts) (norm : Norm) (assumes : Type 0) : Type 0 where
  pub images : (m : Mode) → claims_at f.claims m ≡ true → HasImages P writes m
  pub back : assumes → (m : Mode) → claims_at f.claims m ≡ true → ReadsBack P writes reads norm m
  pub never_key : (m : Mode) → claims_at f.claims m ≡ true → NeverKey P writes m
  pub written_kinds : (m : Mode) (v : Meaning) (t : Tree) → P v → writes m v ≡ Ok t → has f.written (kind_of t) ≡ true
  pub read_kinds : (m : Mode) (t : Tree) (v : Meaning) → reads m t ≡ Ok v → has (read_at f m) (kind_of t) ≡ true
  pub unmarked : IsUnmarked writes
  pub exact : f.grade ≡ Exact → (m : Mode) → IsExact P norm m
  pub spot_kinds : (m : Mode) → HasSpotKinds reads spot m
  pub nodes : WritesNodes P writes
  pub norms : NormsWithin P norm

-- the norm that changes nothing
abbrev pub same_norm : Norm
same_norm m v = v
