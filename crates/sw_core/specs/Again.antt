-- What a sound nest promises of a value that it writes: its bytes read again.
use Rattle.std.specs.Prelude.{◌≡◌, ℕ, List, Ok, Err, Some}
use Rattle.sw_tree.specs.Image.{image}
use Rattle.sw_tree.specs.Meaning.{Meaning}
use Rattle.sw_tree.specs.Mode.{plain}
use Rattle.sw_tree.specs.Short.{IsShort}
use Rattle.sw_tree.specs.Tree.{Tree}
use Rattle.sw_tree.specs.Wires.{Spelled, Texts}
use Rattle.sw_tree.specs.declared.mode.WireKind.{WireKind}
use Rattle.sw_tree.specs.declared.mode.Place.TheVariants.{Value}
use Rattle.sw_tree.specs.declared.fail.SerError.TheVariants.{Key}
use Rattle.sw_elem.specs.Equations.{Writes, Reads}
use Rattle.sw_elem.specs.Statements.{Norm}

-- the bytes spell the image of the tree that is written for the value
pub record SpellsImage (writes : Writes) (w : WireKind) (spelled : Spelled) (bytes : List ℕ) (v : Meaning) : Type 0 where
  pub tree : Tree
  pub written : writes (plain w) v ≡ Ok tree
  pub found : Tree
  pub imaged : image w Value tree ≡ Some found
  pub spells : spelled bytes ≡ Ok found

-- and that image is read as this meaning
pub record ReadsAgain (writes : Writes) (reads : Reads) (w : WireKind) (spelled : Spelled) (bytes : List ℕ) (v u : Meaning) : Type 0 where
  pub image_of : SpellsImage writes w spelled bytes v
  pub means : reads (plain w) image_of.found ≡ Ok u

-- Whatever tree is written for the value: it has an image, whose text spells it where the tree is short, as each node's is; under what is
-- assumed the image is read as the value's norm; and the value isn't refused for a key without an image.
pub record IsKept (writes : Writes) (reads : Reads) (w : WireKind) (spelled : Spelled) (text : Texts) (norm : Norm) (assumes : Type 0) (v : Meaning) : Type 0 where
  pub imaged : (t : Tree) → writes (plain w) v ≡ Ok t → (i : Tree) × (image w Value t ≡ Some i)
  pub spells : (t i : Tree) → writes (plain w) v ≡ Ok t → IsShort t → image w Value t ≡ Some i → spelled (text i) ≡ Ok i
  pub back : assumes → (t i : Tree) → writes (plain w) v ≡ Ok t → image w Value t ≡ Some i → reads (plain w) i ≡ Ok (norm (plain w) v)
  pub never_key : writes (plain w) v ≡ Err Key → ⊥
