-- What is built node by node, and what the calls that build answer.
use Rattle.std.specs.Prelude.{cond, nat_le, Result, Ok, Err, ◌≡◌, Bool, true, false, List, [], ◌∷◌}
use Rattle.sw_tree.specs.Answered.{Answered, write_cause}
use Rattle.sw_tree.specs.Tree.{Tree, depth, list, trees, map, entries, by_turns}
use Rattle.sw_tree.specs.Steps.{bind}
use Rattle.sw_tree.specs.declared.fail.SerError.{SerError}
use Rattle.sw_tree.specs.declared.fail.SerFail.{SerFail}
use Rattle.sw_tree.specs.declared.fail.SerFail.TheVariants as ser
use Rattle.sw_tree.specs.declared.fail.SerError.TheVariants as reason

-- a tree of at most 128 levels
abbrev pub within : Tree → Result Tree SerError
within t = cond (nat_le (depth t) 128) (Ok t) (Err reason.TooDeep)

-- the tree exactly where there is one, the refusal exactly where it is that one, or want of memory
abbrev pub IsMade : Result Tree SerFail → Result Tree SerError → Type 0
IsMade = Answered (λ t. t) write_cause

-- what is built becomes that, or the refusal is that one, or want of memory; after a refusal or want of memory nothing is said of it
abbrev pub IsBuilt : {S : Type 0} → Result (Unit {0}) SerFail → Result S SerError → S → Type 0
IsBuilt result r new = Answered (λ _. new) write_cause result r

-- where it is taken that is what is built, and otherwise all is as it was; or want of memory
abbrev pub IsTaken : {S : Type 0} → Result Bool SerFail → S → S → S → Type 0
IsTaken (Ok true) with_it old new = new ≡ with_it
IsTaken (Ok false) with_it old new = new ≡ old
IsTaken (Err (ser.Unwritable e)) with_it old new = ⊥
IsTaken (Err ser.Memory) with_it old new = Unit {0}

-- with a tree put in, where there is one
abbrev pub with_put : {S : Type 0} → (Tree → S → S) → Result Tree SerError → S → Result S SerError
with_put put r s = bind r (λ t. Ok (put t s))

-- the tree is put in exactly where there is one, the refusal exactly where it is that one, or want of memory
abbrev pub IsPut : {S : Type 0} → (Tree → S → S) → Result (Unit {0}) SerFail → Result Tree SerError → S → S → Type 0
IsPut put result r old new = IsBuilt result (with_put put r old) new

-- with these trees put in, in order
abbrev pub puts : {S : Type 0} → (Tree → S → S) → List Tree → S → S
puts put [] s = s
puts put (t ∷ ts) s = puts put ts (put t s)

-- to open a list, put its parts in and close it is to put the list in, unless it is too deep
abbrev pub BuildsLists : {S : Type 0} → (Tree → S → S) → (Bool → S → S) → (S → Result S SerError) → Type 0
BuildsLists {S} put opened closed = (s : S) (ts : List Tree) → closed (puts put ts (opened false s)) ≡ with_put put (within (list (trees ts))) s

-- and so it is with a map, its keys and values by turns
abbrev pub BuildsMaps : {S : Type 0} → (Tree → S → S) → (Bool → S → S) → (S → Result S SerError) → Type 0
BuildsMaps {S} put opened closed = (s : S) (es : List (Tree × Tree)) → closed (puts put (by_turns es) (opened true s)) ≡ with_put put (within (map (entries es))) s
