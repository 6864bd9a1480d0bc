-- What the calls of a wire answer, and its laws.
use Rattle.std.specs.Prelude.{ℕ, List, Result, Option, option_map, ◌≡◌, [], Some, IfSome, Vec, ◌⊎◌, Err, Ok}
use Rattle.std.specs.declared.alloc.Global.{Global}
use Rattle.sw_tree.specs.Answered.{wire_cause, Answered, AnsweredOption, print_cause}
use Rattle.sw_tree.specs.Tree.{Tree}
use Rattle.sw_tree.specs.Image.{image}
use Rattle.sw_tree.specs.Proper.{IsNodeTree}
use Rattle.sw_tree.specs.Short.{IsShort}
use Rattle.sw_tree.specs.Raw.{Raw}
use Rattle.sw_tree.specs.Faults.{faults, whole, first, judged}
use Rattle.sw_tree.specs.declared.mode.WireKind.{WireKind}
use Rattle.sw_tree.specs.declared.mode.Place.TheVariants.{Value}
use Rattle.sw_tree.specs.Doc.{Document}
use Rattle.sw_tree.specs.declared.fail.WireError.{WireError}
use Rattle.sw_tree.specs.declared.fail.WireError.TheVariants as wire
use Rattle.sw_tree.specs.declared.fail.PrintError.{PrintError}

-- a wire's grammar: which raw tree bytes spell
abbrev pub Grammar : Type 1
Grammar = List ℕ → Raw → Type 0

-- what bytes are read as: a tree, or an error
abbrev pub Spelled : Type 0
Spelled = List ℕ → Result Tree WireError

-- the one text of an image
abbrev pub Texts : Type 0
Texts = Tree → List ℕ

-- what a tree prints as: the text of its image, where it has one
abbrev pub printed : WireKind → Texts → Tree → Option (List ℕ)
printed w text t = option_map text (image w Value t)

-- The bytes spell a raw tree without faults, and the tree is that of it.
pub record SpellsTree (spells : Grammar) (bytes : List ℕ) (t : Tree) : Type 0 where
  pub raw : Raw
  pub spelled : spells bytes raw
  pub faultless : faults 0 raw [] ≡ []
  pub value_is : t ≡ whole raw

-- The bytes spell a raw tree, and this is the first of its faults.
pub record HasFault (spells : Grammar) (bytes : List ℕ) (e : WireError) : Type 0 where
  pub raw : Raw
  pub spelled : spells bytes raw
  pub first_is : first (faults 0 raw []) ≡ Some e

-- why bytes are refused: they spell no raw tree, or this is the first fault of the one that they spell
abbrev pub IsCause : Grammar → List ℕ → WireError → Type 0
IsCause spells bytes wire.Syntax = (r : Raw) → spells bytes r → ⊥
IsCause spells bytes (wire.NotWhole at) = HasFault spells bytes (wire.NotWhole at)
IsCause spells bytes (wire.TooDeep at) = HasFault spells bytes (wire.TooDeep at)
IsCause spells bytes wire.Memory = ⊥

-- what refusing the bytes says of them: the cause, or nothing at want of memory
abbrev pub IsRefused : Grammar → List ℕ → WireError → Type 0
IsRefused spells bytes e = IfSome (wire_cause e) (IsCause spells bytes)

-- a document that means the tree exactly where one is spelled, the error exactly where it is that one, or want of memory
abbrev pub IsFound : Result Document WireError → Result Tree WireError → Type 0
IsFound = Answered (λ (d : Document). d.tree) wire_cause

-- the text exactly where there is one, Key exactly where there is none, or want of memory
abbrev pub IsPrinted : Result (Vec ℕ Global) PrintError → Option (List ℕ) → Type 0
IsPrinted = AnsweredOption (λ (v : Vec ℕ Global). v.items) print_cause

-- the bytes spell a raw tree, or they spell none
abbrev pub IsDecided : Grammar → List ℕ → Type 0
IsDecided spells b = ((r : Raw) × spells b r) ⊎ ((r : Raw) → spells b r → ⊥)

-- what bytes are read as is what the grammar says
pub record IsGrammar (spells : Grammar) (spelled : Spelled) : Type 0 where
  -- bytes spell at most one raw tree
  pub one : (b : List ℕ) (r s : Raw) → spells b r → spells b s → r ≡ s
  pub decided : (b : List ℕ) → IsDecided spells b
  -- a raw tree that is spelled is read as its tree, or as the first of its faults
  pub found : (b : List ℕ) (r : Raw) → spells b r → spelled b ≡ judged r
  -- bytes that spell no raw tree are Syntax
  pub none : (b : List ℕ) → ((r : Raw) → spells b r → ⊥) → spelled b ≡ Err wire.Syntax

-- the text of the image of a node's tree spells the image
abbrev pub PrintsImages : WireKind → Spelled → Texts → Type 0
PrintsImages w spelled text = (t i : Tree) → IsNodeTree t → IsShort t → image w Value t ≡ Some i → spelled (text i) ≡ Ok i
