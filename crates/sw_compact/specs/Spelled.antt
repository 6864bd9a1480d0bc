-- What bytes spell.
use Rattle.std.specs.Prelude.{◌≡◌, ◌⊎◌, ◌==◌, if◌then◌else◌, ℕ, List, [], ◌∷◌, length, Option, Some, None, Result, Err}
use Rattle.sw_tree.specs.Tree.{Tree}
use Rattle.sw_tree.specs.Raw.{Raw}
use Rattle.sw_tree.specs.Proper.{IsProper}
use Rattle.sw_tree.specs.Short.{IsShort}
use Rattle.sw_tree.specs.Faults as fault
use Rattle.sw_tree.specs.Wires.{Grammar, Spelled, Texts}
use Rattle.sw_tree.specs.declared.fail.WireError.{WireError}
use Rattle.sw_tree.specs.declared.fail.WireError.TheVariants as wire
use Rattle.sw_compact.specs.Spelling.{mark, text_by}
use Rattle.sw_compact.specs.Located.{located}
use Rattle.sw_compact.specs.Decoding.{tree_of}
use Rattle.sw_compact.specs.declared.version.Version.{Version}
use Rattle.sw_compact.specs.declared.version.Version.TheVariants.{One, Two}

-- The bytes are the text of a tree in that version, and the raw tree is that tree at its offsets, which count from the first byte of the text.
pub record SpellsBy (v : Version) (b : List ℕ) (r : Raw) : Type 0 where
  pub tree : Tree
  pub proper : IsProper tree
  pub short : IsShort tree
  pub spelled : b ≡ text_by v tree
  pub raw_is : r ≡ located v (length (mark v)) tree

-- texts of version 1 alone
abbrev pub spells1 : Grammar
spells1 b r = SpellsBy One b r

-- texts of either version
abbrev pub spells : Grammar
spells b r = SpellsBy One b r ⊎ SpellsBy Two b r

-- the texts that are printed
abbrev pub text1 : Texts
text1 t = text_by One t

abbrev pub text2 : Texts
text2 t = text_by Two t

-- the tree at its offsets, or its first fault
abbrev pub judged : Version → Option Tree → Result Tree WireError
judged v None = Err wire.Syntax
judged v (Some t) = fault.judged (located v (length (mark v)) t)

-- what bytes are read as in version 1
unfoldable pub spelled1 : Spelled
spelled1 b = judged One (tree_of One b)

-- what bytes are read as in either version, of which the first byte tells
unfoldable pub spelled : Spelled
spelled [] = spelled1 []
spelled (b ∷ bs) = if b == 194 then judged Two (tree_of Two bs) else spelled1 (b ∷ bs)
