-- What an adapter keeps in a mode, each as a statement on its equations.
use Rattle.std.specs.Prelude.{◌≡◌, Some, Ok, Err}
use Rattle.sw_tree.specs.Image.{image}
use Rattle.sw_tree.specs.Meaning.{Meaning}
use Rattle.sw_tree.specs.Mode.{marked}
use Rattle.sw_tree.specs.Steps.{Each}
use Rattle.sw_tree.specs.Tree.{Tree}
use Rattle.sw_tree.specs.declared.mode.Kind.{Kind}
use Rattle.sw_tree.specs.declared.mode.Mode.{Mode}
use Rattle.sw_tree.specs.declared.fail.SerError.TheVariants.{Key}
use Rattle.sw_tree.specs.declared.fail.DeError.TheVariants.{InvalidType}
use Rattle.sw_tree.specs.Nodes.{kinds, HasKind, IsNoteIn}
use Rattle.sw_tree.specs.Proper.{IsNodeTree}
use Rattle.sw_elem.specs.Equations.{Writes, Reads, Spots, Skips}

-- what reading back gives of a meaning
abbrev pub Norm : Type 0
Norm = Mode → Meaning → Meaning

-- each tree that is written has an image
abbrev pub HasImages : (Meaning → Type 0) → Writes → Mode → Type 0
HasImages P writes m = (v : Meaning) (t : Tree) → P v → writes m v ≡ Ok t → (i : Tree) × (image m.wire m.place t ≡ Some i)

-- the image is read as the norm
abbrev pub ReadsBack : (Meaning → Type 0) → Writes → Reads → Norm → Mode → Type 0
ReadsBack P writes reads norm m = (v : Meaning) (t i : Tree) → P v → writes m v ≡ Ok t → image m.wire m.place t ≡ Some i → reads m i ≡ Ok (norm m v)

-- nothing is refused for a key without an image
abbrev pub NeverKey : (Meaning → Type 0) → Writes → Mode → Type 0
NeverKey P writes m = (v : Meaning) → P v → writes m v ≡ Err Key → ⊥

-- the buffered mark changes nothing that is written
abbrev pub IsUnmarked : Writes → Type 0
IsUnmarked writes = (m : Mode) (v : Meaning) → writes (marked m) v ≡ writes m v

-- what is written is a tree that a node can be
abbrev pub WritesNodes : (Meaning → Type 0) → Writes → Type 0
WritesNodes P writes = (m : Mode) (v : Meaning) (t : Tree) → P v → writes m v ≡ Ok t → IsNodeTree t

-- the norm of one of those meanings is one of them
abbrev pub NormsWithin : (Meaning → Type 0) → Norm → Type 0
NormsWithin P norm = (m : Mode) (v : Meaning) → P v → P (norm m v)

-- the norm changes nothing
abbrev pub IsExact : (Meaning → Type 0) → Norm → Mode → Type 0
IsExact P norm m = (v : Meaning) → P v → norm m v ≡ v

-- a node that is refused for its kind has that kind
abbrev pub HasSpotKinds : Reads → Spots → Mode → Type 0
HasSpotKinds reads spot m = (t : Tree) (k : Kind) → reads m t ≡ Err (InvalidType k) → HasKind (kinds t) (spot m t) k

-- a node that is passed over is one of the tree's, and outside a text has the kind that the note says
abbrev pub HasNoteKinds : Skips → Mode → Type 0
HasNoteKinds skips m = (t : Tree) → Each (IsNoteIn (kinds t)) (skips m t)
