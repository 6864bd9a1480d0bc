-- To open a list or map in a builder of nodes, put its parts in and close it is to put it in.
use Rattle.std.specs.Prelude.{List, Bool, ◌≡◌, [], ◌∷◌, ◌++◌, refl, false, true, Some, Result, Ok, Err}
use Rattle.std.proofs.Common.{append_assoc, ap, ◌∙◌, sym}
use Rattle.std.proofs.lemmas.List.{append-nil}
use Rattle.sw_tree.specs.Tree.{Tree, turns, by_turns, list, trees, map, entries}
use Rattle.sw_tree.specs.Builder.{Frame}
use Rattle.sw_tree.specs.Building.{puts, within, with_put}
use Rattle.sw_tree.specs.declared.fail.SerError.{SerError}
use Rattle.sw_tree.specs.NodeBuilder.{Nodes, put, opened, closed, fresh}

-- ---- the laws
abbrev at : Bool → List Tree → List Frame → Nodes
at m ts o = record { top = record { is_map = m; children = ts }; outer = o }

pub regroup : (ss : List Tree) (t : Tree) (ts : List Tree) → (ss ++ t ∷ []) ++ ts ≡ ss ++ t ∷ ts
regroup ss t ts = rw append_assoc refl

puts-at : (m : Bool) (o : List Frame) (ss ts : List Tree) → puts put ts (at m ss o) ≡ at m (ss ++ ts) o
puts-at m o ss [] = ap (λ r. at m r o) (sym (append-nil ss))
puts-at m o ss (t ∷ ts) = puts-at m o (ss ++ t ∷ []) ts ∙ ap (λ r. at m r o) (regroup ss t ts)

pub turns-by_turns : (es : List (Tree × Tree)) → turns (by_turns es) ≡ es
turns-by_turns [] = refl
turns-by_turns (e ∷ es) = ap (λ r. e ∷ r) (turns-by_turns es)

pub lists : (b : Nodes) (ts : List Tree) → closed (puts put ts (opened false b)) ≡ with_put put (within (list (trees ts))) b
lists b ts = ap closed (puts-at false (b.top ∷ b.outer) [] ts)

pub maps : (b : Nodes) (es : List (Tree × Tree)) → closed (puts put (by_turns es) (opened true b)) ≡ with_put put (within (map (entries es))) b
maps b es = ap closed (puts-at true (b.top ∷ b.outer) [] (by_turns es)) ∙ ap (λ r. with_put put (within (map (entries r))) b) (turns-by_turns es)

-- the node that was put into a fresh builder is the tree that was to be put
pub node_put : (r : Result Tree SerError) (b : Nodes) (n : Tree) → ((t : Tree) → b ≡ put t fresh → Some n ≡ Some t) → with_put put r fresh ≡ Ok b → r ≡ Ok n
node_put (Ok t) b n k h =
    let e : b ≡ put t fresh = cc in
    let same : Some n ≡ Some t = k t e in
    cc
node_put (Err e) b n k h = absurd (cc)
