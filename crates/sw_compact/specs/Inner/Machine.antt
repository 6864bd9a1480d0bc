-- The heads of nodes, read one after another: what is built, or the first fault, and what is open.
use Rattle.std.specs.Prelude.{ℕ, List, [], ◌∷◌, ◌-◌, Bool, true, false, zero, suc, length, nat_lt, if◌then◌else◌, Option, Some, None, option_and_then, Result, Ok, Err}
use Rattle.sw_tree.specs.Tree.{Tree, bytes}
use Rattle.sw_tree.specs.Builder.{Built, added, opened, closed}
use Rattle.sw_tree.specs.declared.fail.WireError.{WireError}
use Rattle.sw_tree.specs.declared.fail.WireError.TheVariants as wire
use Rattle.sw_compact.specs.Head.{Head, leaf, opens, head}
use Rattle.sw_compact.specs.declared.level.Level.{Level}
use Rattle.sw_compact.specs.declared.version.Version.{Version}

-- what is built as long as there is no fault, and else the first
abbrev pub Progress : Type 0
Progress = Result Built WireError

pub record State : Type 0 where
  pub progress : Progress
  -- the innermost first; nothing is open before the root and behind it
  pub levels : List Level

-- the node has a level of its own
abbrev pub opens_level : Head → Bool
opens_level (leaf (bytes s)) = true
opens_level (leaf t) = false
opens_level (opens m n) = true

-- the fault of a node below so many levels that has one
abbrev pub level_fault : Bool → ℕ → ℕ → Option WireError
level_fault true depth at = if nat_lt depth 128 then None else Some (wire.TooDeep at)
level_fault false depth at = None

-- what is done, where neither it nor what came before has a fault
abbrev pub went : Option WireError → (Built → Built) → Progress → Progress
went f e (Err x) = Err x
went None e (Ok b) = Ok (e b)
went (Some x) e (Ok b) = Err x

abbrev pub head_fault : ℕ → ℕ → Head → Option WireError
head_fault depth at h = level_fault (opens_level h) depth at

abbrev pub effect : Head → Built → Built
effect (leaf t) b = added b t
effect (opens m n) b = opened b m

abbrev pub with_head : ℕ → ℕ → Head → Progress → Progress
with_head at depth h p = went (head_fault depth at h) (effect h) p

abbrev pub with_close : Progress → Progress
with_close p = went None closed p

-- in front of so many parts of a list or map that is open: it waits for the first of them, or closes, which leads to that state
abbrev pub before : ℕ → Bool → Progress → List Level → State → State
before zero m p ls closing = closing
before (suc n) m p ls closing = record { progress = p; levels = record { is_map = m; due = n } ∷ ls }

-- behind a finished node, what has no part left closes
abbrev pub settle : Progress → List Level → State
settle p [] = record { progress = p; levels = [] }
settle p (l ∷ ls) = before l.due l.is_map p ls (settle (with_close p) ls)

-- behind an opening
abbrev pub enter : Bool → ℕ → Progress → List Level → State
enter m n p ls = before n m p ls (settle (with_close p) ls)

-- behind a head
abbrev pub follow : Head → Progress → List Level → State
follow (leaf t) p ls = settle p ls
follow (opens m n) p ls = enter m n p ls

abbrev pub take : ℕ → Head → Progress → List Level → State
take at h p ls = follow h (with_head at (length ls) h p) ls

-- where nothing is open, all bytes are read
abbrev pub ended : Progress → List ℕ → Option Progress
ended p [] = Some p
ended p (b ∷ bs) = None

-- where nothing is open behind a node, that was the root; and else it goes on
abbrev pub go_on : (State → List ℕ → Option Progress) → Progress → List Level → List ℕ → Option Progress
go_on next p [] b = ended p b
go_on next p (l ∷ ls) b = next (record { progress = p; levels = l ∷ ls }) b

-- what the bytes, which end at that offset, come to from a state on that waits for a node; by at most so many heads
abbrev pub run : ℕ → Version → ℕ → State → List ℕ → Option Progress
run zero v end s b = None
run (suc n) v end s b =
    option_and_then (λ x. let next = take (end - length b) x.0 s.progress s.levels in go_on (run n v end) next.progress next.levels x.1) (head v b)

-- the tree that was built, or why there is none
abbrev pub rooted : Option Tree → Result Tree WireError
rooted (Some t) = Ok t
rooted None = Err wire.Syntax

abbrev pub outcome : Progress → Result Tree WireError
outcome (Ok b) = rooted b.root
outcome (Err e) = Err e

abbrev pub answer : Option Progress → Result Tree WireError
answer None = Err wire.Syntax
answer (Some p) = outcome p
