-- The tree that bytes spell, computed.
use Rattle.std.specs.Prelude.{ℕ, List, [], ◌∷◌, zero, suc, false, true, length, Bool, Option, Some, None, option_map, option_and_then}
use Rattle.sw_tree.specs.Tree.{Tree, list, map, trees, entries, turns}
use Rattle.sw_compact.specs.Head.{Front, Head, leaf, opens, head}
use Rattle.sw_compact.specs.declared.version.Version.{Version}

-- so many of what one reading gives, one behind the other
abbrev pub repeated : {A : Type 0} → ℕ → (List ℕ → Front A) → List ℕ → Front (List A)
repeated zero one b = Some ([], b)
repeated (suc n) one b = option_and_then (λ x. option_map (λ y. (x.0 ∷ y.0, y.1)) (repeated n one x.1)) (one b)

-- a list, or a map, of these parts
abbrev pub built : Bool → List Tree → Tree
built false ts = list (trees ts)
built true ts = map (entries (turns ts))

-- the node behind its head, where its parts are read so
abbrev pub behind_head : (List ℕ → Front Tree) → Head → List ℕ → Front Tree
behind_head one (leaf t) b = Some (t, b)
behind_head one (opens m n) b = option_map (λ x. (built m x.0, x.1)) (repeated n one b)

-- the node at the front, of at most so many levels
abbrev pub node : ℕ → Version → List ℕ → Front Tree
node zero v b = None
node (suc n) v b = option_and_then (λ x. behind_head (node n v) x.0 x.1) (head v b)

-- the node that all the bytes are
abbrev pub all_of : Front Tree → Option Tree
all_of None = None
all_of (Some (t, [])) = Some t
all_of (Some (t, b ∷ bs)) = None

-- the tree of the bytes behind the mark
abbrev pub tree_of : Version → List ℕ → Option Tree
tree_of v b = all_of (node (length b) v b)
