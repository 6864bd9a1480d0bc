-- What a builder of documents means.
use Rattle.std.specs.Prelude.{List, Bool, ℕ, Option, [], ◌∷◌, ◌++◌, Some, ◌+◌, true, false, ◌%◌, ◌≡◌, length}
use Rattle.sw_tree.specs.Tree.{Tree, trees, entries, turns}
use Rattle.sw_tree.specs.Tree as tree

-- an open list or map with its finished children, a map's keys and values by turns
pub record Frame : Type 0 where
  pub is_map : Bool
  pub children : List Tree

-- the input, how long the text beside it is, the open lists and maps, the innermost first, and the finished root
pub record Built : Type 0 where
  pub input : List ℕ
  pub side_len : ℕ
  pub frames : List Frame
  pub root : Option Tree

abbrev pub added_to : Built → List Frame → Tree → Built
added_to b [] t = record { input = b.input; side_len = b.side_len; frames = []; root = Some t }
added_to b (f ∷ outer) t = record { input = b.input; side_len = b.side_len; frames = record { is_map = f.is_map; children = f.children ++ t ∷ [] } ∷ outer; root = b.root }

-- with a further child of the innermost, or with the root
abbrev pub added : Built → Tree → Built
added b t = added_to b b.frames t

-- with that many bytes more beside the input
abbrev pub longer : Built → ℕ → Built
longer b n = record { input = b.input; side_len = b.side_len + n; frames = b.frames; root = b.root }

abbrev pub opened : Built → Bool → Built
opened b is_map = record { input = b.input; side_len = b.side_len; frames = record { is_map = is_map; children = [] } ∷ b.frames; root = b.root }

abbrev pub built_tree : Bool → List Tree → Tree
built_tree false ts = tree.list (trees ts)
built_tree true ts = tree.map (entries (turns ts))

abbrev pub closed_from : Built → List Frame → Built
closed_from b [] = b
closed_from b (f ∷ outer) = added_to b outer (built_tree f.is_map f.children)

-- with the innermost finished
abbrev pub closed : Built → Built
closed b = closed_from b b.frames

-- a map has as many keys as values
abbrev pub IsComplete : Bool → List Tree → Type 0
IsComplete false ts = Unit {0}
IsComplete true ts = length ts % 2 ≡ 0

abbrev pub CanCloseFrom : List Frame → Type 0
CanCloseFrom [] = ⊥
CanCloseFrom (f ∷ outer) = IsComplete f.is_map f.children

abbrev pub CanClose : Built → Type 0
CanClose b = CanCloseFrom b.frames
