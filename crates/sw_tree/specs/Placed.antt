-- A refusal of a part, with the place of its node.
use Rattle.std.specs.Prelude.{ℕ, Result, Ok, Err, Bool, List, map as list_map, ◌+◌}
use Rattle.sw_tree.specs.Tree.{Tree}
use Rattle.sw_tree.specs.Seen.{Seen, place_at}
use Rattle.sw_tree.specs.Steps.{bind}
use Rattle.sw_tree.specs.declared.fail.DeError.{DeError}
use Rattle.sw_tree.specs.declared.fail.Refusal.{Refusal}

-- an answer whose refusal is at the node of that number
abbrev pub placed_at : {M : Type 0} → Seen → ℕ → Result M DeError → Result M Refusal
placed_at s k (Ok v) = Ok v
placed_at s k (Err e) = Err (record { error = e; place = place_at s k })

-- what a reader answers at what a view shows
abbrev pub placed : {M : Type 0} → (Tree → Result M DeError) → (Tree → ℕ) → Seen → Result M Refusal
placed reads spot s = placed_at s (spot s.tree) (reads s.tree)

-- the number of the refused node: here where the first is refused, and else later
abbrev pub spot_next : {M : Type 0} → Result M DeError → ℕ → ℕ → ℕ
spot_next (Ok v) here later = later
spot_next (Err e) here later = here

-- a refusal that was passed over, the number of its node, and whether it came from inside a text
pub record Note : Type 0 where
  pub error : DeError
  pub number : ℕ
  pub inside : Bool

abbrev pub placed_note : Seen → Note → Refusal
placed_note s n = record { error = n.error; place = place_at s n.number }

-- the notes, each at its place
abbrev pub placed_notes : Seen → List Note → List Refusal
placed_notes s ns = list_map (placed_note s) ns

-- numbers that count from a node further on
abbrev pub moved : ℕ → List Note → List Note
moved k ns = list_map (λ (n : Note). record { error = n.error; number = k + n.number; inside = n.inside }) ns

-- a key, then its value
abbrev pub pair_of : {K V E A B : Type 0} → (A → Result K E) → (B → Result V E) → A × B → Result (K × V) E
pair_of f h e = bind (f e.0) (λ k. bind (h e.1) (λ v. Ok (k, v)))
