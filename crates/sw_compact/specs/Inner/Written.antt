-- What a writer means: the version, and the lists and maps that are open, with the bytes of their finished parts.
use Rattle.std.specs.Prelude.{ℕ, List, Bool, true, false, [], ◌∷◌, ◌++◌, ◌+◌, ◌/◌, ◌≡◌, ◌≤◌, suc, max, cond, nat_le, length, take, drop, Result, Ok, Err}
use Rattle.sw_tree.specs.Tree.{Tree, depth}
use Rattle.sw_tree.specs.declared.fail.SerError.{SerError}
use Rattle.sw_tree.specs.declared.fail.SerError.TheVariants as reason
use Rattle.sw_compact.specs.Lengths.{length_bytes}
use Rattle.sw_compact.specs.Spelling.{spelling, mark}
use Rattle.sw_compact.specs.Inner.Appended.{opening_tag}
use Rattle.sw_compact.specs.declared.version.Version.{Version}
use Rattle.sw_compact.specs.declared.writer.Open.{Open}

-- a list or map that is open: how many parts it has, a map's keys and values counted; how many levels the deepest has; and their bytes
pub record Frame : Type 0 where
  pub is_map : Bool
  pub parts : ℕ
  pub height : ℕ
  pub bytes : List ℕ

-- the innermost, and those around it, the innermost first; the last of all is what stands where nothing is open
pub record Written : Type 0 where
  pub version : Version
  pub top : Frame
  pub outer : List Frame

abbrev pub empty : Bool → Frame
empty b = record { is_map = b; parts = 0; height = 0; bytes = [] }

-- with a further part, of these bytes and so many levels
abbrev pub with_part : List ℕ → ℕ → Frame → Frame
with_part s h f = record { is_map = f.is_map; parts = f.parts + 1; height = max f.height h; bytes = f.bytes ++ s }

-- how many items, or entries
abbrev pub count : Bool → ℕ → ℕ
count true parts = parts / 2
count false parts = parts

-- the spelling of a list or map whose parts are these
abbrev pub spelled : Version → Frame → List ℕ
spelled v f = opening_tag f.is_map ∷ length_bytes v (count f.is_map f.parts) ++ f.bytes

-- the mark alone
abbrev pub fresh : Version → Written
fresh v = record { version = v; top = record (empty false) { bytes = mark v }; outer = [] }

abbrev pub put : Tree → Written → Written
put t w = record { version = w.version; top = with_part (spelling w.version t []) (depth t) w.top; outer = w.outer }

abbrev pub opened : Bool → Written → Written
opened b w = record { version = w.version; top = empty b; outer = w.top ∷ w.outer }

abbrev pub closed_to : Written → List Frame → Result Written SerError
closed_to w [] = Ok w
closed_to w (f ∷ fs) =
    cond (nat_le (suc w.top.height) 128) (Ok (record { version = w.version; top = with_part (spelled w.version w.top) (suc w.top.height) f; outer = fs })) (Err reason.TooDeep)

abbrev pub closed : Written → Result Written SerError
closed w = closed_to w w.outer

-- ---- bytes with marks
-- all the bytes, with nothing in them
abbrev pub root : Open
root = record { is_map = false; parts = 0; height = 0; tag = 0; start = 0; told = 0 }

-- with a further part of so many levels
abbrev pub longer : Open → ℕ → Open
longer o h = record o { parts = o.parts + 1; height = max o.height h }

-- what is open, whose parts begin at its start
abbrev pub frame : List ℕ → Open → Frame
frame b o = record { is_map = o.is_map; parts = o.parts; height = o.height; bytes = drop o.start b }

-- those around it: its own bytes begin at its tag
abbrev pub frames : List ℕ → Open → List Open → List Frame
frames b o [] = []
frames b o (p ∷ os) = frame (take o.tag b) p ∷ frames (take o.tag b) p os

abbrev pub shown : Version → List ℕ → Open → List Open → Written
shown v b o os = record { version = v; top = frame b o; outer = frames b o os }

-- all the bytes, where nothing is open: each part has a byte at least
pub record IsRoot (b : List ℕ) (o : Open) : Type 0 where
  pub start_is : o.start ≡ 0
  pub parts_in : o.parts ≤ length b
  pub shallow : o.height ≤ 128

-- a list or map in the bytes: the count that was told stands behind its tag, and each part has a byte at least
pub record IsLaid (v : Version) (b : List ℕ) (o : Open) : Type 0 where
  pub start_in : o.start ≤ length b
  pub tag_in : o.tag + 1 ≤ o.start
  pub told : drop o.tag b ≡ opening_tag o.is_map ∷ length_bytes v o.told ++ drop o.start b
  pub parts_in : o.start + o.parts ≤ length b
  pub shallow : o.height ≤ 128

abbrev pub AreLaid : Version → List ℕ → Open → List Open → Type 0
AreLaid v b o [] = IsRoot b o
AreLaid v b o (p ∷ os) = IsLaid v b o × AreLaid v (take o.tag b) p os

-- the bytes once the list or map is spelled with the count of its parts
abbrev pub settled : Version → List ℕ → Open → List ℕ
settled v b o = take o.tag b ++ spelled v (frame b o)
