-- A builder's cells, and the stack of what is open in them.
use Rattle.std.specs.Prelude.{ℕ, nat_le, Bool, false, Option, Some, None, ◌+◌, length, ◌%◌, List, nat_eq, true, [], ◌∷◌, take, drop, ◌≤◌, ◌≡◌, ◌<◌, refl, ◌/◌}
use Rattle.std.specs.Coded.{Coded, code_by, coded×, coded_list, coded_bool, coded_ℕ, coded_option}
use Rattle.sw_tree.specs.Tree.{Tree, trees, trees_depth}
use Rattle.sw_tree.specs.declared.cell.Cell.{Cell}
use Rattle.sw_tree.specs.declared.cell.Cell.TheVariants.{List as Items, Map}
use Rattle.sw_tree.specs.declared.builder.Open.{Open}
use Rattle.sw_tree.specs.Builder.{Built, Frame}
use Rattle.sw_tree.specs.Inner.Cells.{Store, forest, Formed}
use Rattle.sw_tree.specs.Inner.TreeCode.{coded_tree}

-- there is no root yet, and there are no more levels than that
abbrev pub has_room : Option Tree → ℕ → Bool
has_room None n = nat_le n 128
has_room (Some t) n = false

-- that a tree of so many levels can be added
abbrev pub takes : Built → ℕ → Bool
takes b n = has_room b.root (length b.frames + n)

-- the same as a test
abbrev pub is_complete : Bool → List Tree → Bool
is_complete false ts = true
is_complete true ts = nat_eq (length ts % 2) 0

abbrev pub can_close_from : List Frame → Bool
can_close_from [] = false
can_close_from (f ∷ outer) = is_complete f.is_map f.children

-- that the innermost can be closed
abbrev pub can_close : Built → Bool
can_close b = can_close_from b.frames

abbrev pub root_of : List Tree → Option Tree
root_of [] = None
root_of (t ∷ ts) = Some t

abbrev pub open_of : Store → List Open → List Cell → List Frame
open_of s [] cells = []
open_of s (o ∷ outer) cells = record { is_map = o.is_map; children = forest s (drop (o.at + 1) cells) } ∷ open_of s outer (take o.at cells)

abbrev pub done_of : Store → List Open → List Cell → List Tree
done_of s [] cells = forest s cells
done_of s (o ∷ outer) cells = done_of s outer (take o.at cells)

-- The cells behind each open list fit one another, and are as many trees as are counted.
pub record Segment (s : Store) (d : ℕ) (cells : List Cell) (kids : ℕ) : Type 0 where
  pub formed : Formed s cells
  pub counted : kids ≡ length (forest s cells)
  pub shallow : trees_depth (trees (forest s cells)) + d ≤ 128

-- the outermost stands first
abbrev pub IsFirst : List Open → ℕ → Type 0
IsFirst [] at = at ≡ 0
IsFirst (o ∷ outer) at = Unit {0}

abbrev pub Stacked : Store → List Open → List Cell → ℕ → Type 0
Stacked s [] cells kids = Segment s 0 cells kids
Stacked s (o ∷ outer) cells kids =
    (o.at < length cells) × IsFirst outer o.at × Segment s (length outer + 1) (drop (o.at + 1) cells) kids × Stacked s outer (take o.at cells) o.kids

-- a builder's cells, of which there are fewer than 2 ^ 32
pub record Standing (s : Store) (r : List Open) (cells : List Cell) (kids : ℕ) : Type 0 where
  pub stacked : Stacked s r cells kids
  pub few : length cells < 4294967296

-- what a builder means, with the open lists and maps the innermost first
abbrev pub meant : Store → List Open → List Cell → Built
meant s r cells = record { input = s.input; side_len = length s.side; frames = open_of s r cells; root = root_of (done_of s r cells) }

abbrev pub coded_frame : Coded Frame
coded_frame = code_by (Bool × List Tree) (coded× coded_bool (coded_list coded_tree)) (λ f. (f.is_map, f.children)) (λ p. record { is_map = p.0; children = p.1 }) (λ _. refl)

abbrev pub coded_built : Coded Built
coded_built =
    code_by ((List ℕ × ℕ) × (List Frame × Option Tree))
    (coded× (coded× (coded_list coded_ℕ) coded_ℕ) (coded× (coded_list coded_frame) (coded_option coded_tree)))
    (λ b. ((b.input, b.side_len), (b.frames, b.root))) (λ p. record { input = p.0.0; side_len = p.0.1; frames = p.1.0; root = p.1.1 }) (λ _. refl)

abbrev pub finished : Bool → ℕ → ℕ → Cell
finished false kids below = Items (record { count = kids; below = below })
finished true kids below = Map (record { count = kids / 2; below = below })
