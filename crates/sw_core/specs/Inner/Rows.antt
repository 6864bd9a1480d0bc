-- A row whose trees have their places: what reading it answers, and what it logs.
use Rattle.std.specs.Prelude.{List, [], ◌∷◌, ◌++◌, cond, is_ok, Result, Ok}
use Rattle.sw_tree.specs.Meaning.{Meaning}
use Rattle.sw_tree.specs.Placed.{placed, placed_notes}
use Rattle.sw_tree.specs.Seen.{Seen}
use Rattle.sw_tree.specs.Steps.{bind}
use Rattle.sw_tree.specs.declared.fail.Refusal.{Refusal}
use Rattle.sw_core.specs.Rows.{Reader}

-- the values in order, or the first refusal
abbrev pub seen_reads : {M : Type 0} → List (Reader M) → List Seen → Result (List M) Refusal
seen_reads [] ss = Ok []
seen_reads (r ∷ rs) [] = Ok []
seen_reads (r ∷ rs) (s ∷ ss) = bind (placed r.reads r.spot s) (λ v. bind (seen_reads rs ss) (λ vs. Ok (v ∷ vs)))

-- what is passed over, up to the first tree that is refused
abbrev pub seen_logs : {M : Type 0} → List (Reader M) → List Seen → List Refusal
seen_logs [] ss = []
seen_logs (r ∷ rs) [] = []
seen_logs (r ∷ rs) (s ∷ ss) = placed_notes s (r.skips s.tree) ++ cond (is_ok (placed r.reads r.spot s)) (seen_logs rs ss) []

-- the keys and values of entries, by turns
abbrev pub seen_turns : List (Seen × Seen) → List Seen
seen_turns [] = []
seen_turns (e ∷ es) = e.0 ∷ e.1 ∷ seen_turns es

-- the meanings of a pair, and of pairs, by turns
abbrev pub both : {A B : Type 0} → (A → Meaning) → (B → Meaning) → A × B → List Meaning
both f g p = f p.0 ∷ g p.1 ∷ []

abbrev pub all_both : {A B : Type 0} → (A → Meaning) → (B → Meaning) → List (A × B) → List Meaning
all_both f g [] = []
all_both f g (p ∷ ps) = f p.0 ∷ g p.1 ∷ all_both f g ps
