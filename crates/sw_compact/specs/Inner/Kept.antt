-- What the reader's code keeps of what the heads so far lead to.
use Rattle.std.specs.Prelude.{ℕ, List, [], ◌∷◌, ◌+◌, ◌-◌, ◌%◌, ◌≡◌, ◌≤◌, Bool, true, false, length, slice_range, Option, Some, None, is_some, Ok, Err}
use Rattle.std.specs.Str.{IsUtf8}
use Rattle.sw_tree.specs.Tree.{int, text, bytes}
use Rattle.sw_tree.specs.Number.{IsInRange}
use Rattle.sw_tree.specs.Builder.{Built, Frame}
use Rattle.sw_tree.specs.Builder as builder
use Rattle.sw_tree.specs.declared.fail.WireError.{WireError}
use Rattle.sw_compact.specs.Head.{Head, leaf, opens}
use Rattle.sw_compact.specs.Inner.Machine.{Progress, State}
use Rattle.sw_compact.specs.declared.level.Level.{Level}

-- what is built is kept as long as there is no fault
abbrev pub progress_of : Option WireError → Built → Progress
progress_of None b = Ok b
progress_of (Some e) b = Err e

-- the code stands in that state
abbrev pub Stands : State → Option WireError → Built → List Level → Type 0
Stands s fault b ls = s ≡ record { progress = progress_of fault b; levels = ls }

-- ---- what is open
abbrev pub IsEven : Bool → ℕ → Type 0
IsEven false n = Unit {0}
IsEven true n = n % 2 ≡ 0

-- The open lists and maps are those of the levels, and with what comes, so many parts at the innermost and one at each of the others, and
-- what is due behind that, a map has as many keys as values.
abbrev pub AreOpen : ℕ → List Frame → List Level → Type 0
AreOpen k [] [] = Unit {0}
AreOpen k (f ∷ fs) (l ∷ ls) = (f.is_map ≡ l.is_map) × IsEven l.is_map (length f.children + (k + l.due)) × AreOpen 1 fs ls
AreOpen k _ _ = ⊥

-- a node comes next
pub record Waits (b : Built) (ls : List Level) : Type 0 where
  pub no_root : b.root ≡ None
  pub frames : AreOpen 1 b.frames ls

-- a node has just come: the root, or a part of the innermost
abbrev pub HasCome : Built → List Level → Type 0
HasCome b [] = is_some b.root ≡ true
HasCome b (l ∷ ls) = (b.root ≡ None) × AreOpen 0 b.frames (l ∷ ls)

-- a list or map inside these levels has just been opened, of so many parts
abbrev pub IsOpened : List Frame → Bool → List Level → Type 0
IsOpened [] m ls = ⊥
IsOpened (f ∷ fs) m ls = (f.is_map ≡ m) × (f.children ≡ []) × AreOpen 1 fs ls

pub record HasOpened (b : Built) (m : Bool) (n : ℕ) (ls : List Level) : Type 0 where
  pub no_root : b.root ≡ None
  pub opened : IsOpened b.frames m ls
  pub even : IsEven m n

-- the innermost can be closed
abbrev pub CanClose : Built → Type 0
CanClose b = builder.CanClose b

abbrev pub CanFollow : Built → Head → List Level → Type 0
CanFollow b (leaf t) ls = HasCome b ls
CanFollow b (opens m n) ls = HasOpened b m n ls

-- ---- what a head adds
-- These bytes are the part of the input that ends there.
pub record IsPart (s : List ℕ) (end : ℕ) (input : List ℕ) : Type 0 where
  pub behind : length s ≤ end
  pub inside : end ≤ length input
  pub part : slice_range input (end - length s) end ≡ s

abbrev pub Fits : Head → ℕ → List ℕ → Type 0
Fits (leaf (int n)) end input = IsInRange n
Fits (leaf (text s)) end input = IsPart s end input × IsUtf8 s
Fits (leaf (bytes s)) end input = IsPart s end input
Fits h end input = Unit {0}

-- the head, which ends there, can be added below so many levels
pub record CanBuild (b : Built) (end depth : ℕ) (h : Head) : Type 0 where
  pub no_root : b.root ≡ None
  pub levels : length b.frames ≡ depth
  pub fits : Fits h end b.input

-- ---- the mark of version 2
-- these are the bytes behind the mark, or the bytes don't begin with it
abbrev pub IsBehindMark : List ℕ → Option (List ℕ) → Type 0
IsBehindMark b (Some body) = b ≡ 194 ∷ body
IsBehindMark b None = (body : List ℕ) → b ≡ 194 ∷ body → ⊥
