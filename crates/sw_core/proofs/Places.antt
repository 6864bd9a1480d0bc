-- Reading a node's children each at its place, and making something of their values at the node, is reading the node.
use Rattle.std.specs.Prelude.{◌≡◌, ℕ, ◌+◌, List, [], ◌∷◌, ◌++◌, cond, is_ok, Bool, true, false, Result, Ok, Err}
use Rattle.std.proofs.Common.{refl, ap, ◌∙◌, arith}
use Rattle.std.proofs.lemmas.List.{map-append}
use Rattle.sw_tree.specs.Placed.{Note, moved, placed, placed_at, placed_note, placed_notes, spot_next}
use Rattle.sw_tree.specs.Seen.{Seen, place_at, behind, row, entry_row}
use Rattle.sw_tree.specs.Steps.{bind}
use Rattle.sw_tree.specs.Tree.{Tree, by_turns, size}
use Rattle.sw_tree.specs.declared.mode.Mode.{Mode}
use Rattle.sw_tree.specs.declared.fail.DeError.{DeError}
use Rattle.sw_tree.specs.declared.fail.Refusal.{Refusal}
use Rattle.sw_core.specs.Plans.{children, Plans, plan_reads, plan_spot, plan_skips}
use Rattle.sw_core.specs.Rows.{Reader, row_reads, row_spot, row_skips}
use Rattle.sw_core.specs.Inner.Rows.{seen_reads, seen_logs, seen_turns}

abbrev at : Bool → ℕ → Tree → Seen
at c p t = record { tree = t; place = p; counts = c }

-- a node's children, each at its place
abbrev pub children_seen : Seen → List Seen
children_seen s = row s.counts (place_at s 1) (children s.tree)

-- ---- numbers from behind a tree on, and from the tree on

move : (c : Bool) (p k : ℕ) (t u : Tree) → place_at (at c (behind c p t) u) k ≡ place_at (at c p u) (size t + k)
move true p k t u = omega arith
move false p k t u = refl

notes_move : (c : Bool) (p : ℕ) (t u : Tree) (ns : List Note) → placed_notes (at c (behind c p t) u) ns ≡ placed_notes (at c p u) (moved (size t) ns)
notes_move c p t u [] = refl
notes_move c p t u (n ∷ ns) = rw (move c p n.number t u, notes_move c p t u ns) refl

onward : {M : Type 0} (c : Bool) (p k : ℕ) (t u : Tree) (v : M) (r : Result (List M) DeError) →
    bind (placed_at (at c (behind c p t) u) k r) (λ vs. Ok (v ∷ vs)) ≡ placed_at (at c p u) (size t + k) (bind r (λ vs. Ok (v ∷ vs)))
onward c p k t u v (Ok vs) = refl
onward c p k t u v (Err e) = ap (λ (n : ℕ). Err (record { error = e; place = n })) (move c p k t u)

first_read : {M : Type 0} (c : Bool) (p g k : ℕ) (t u : Tree) (x : Result M DeError) (y : Result (List M) DeError) (q : Result (List M) Refusal) → q ≡ placed_at (at c (behind c p t) u) k y →
    bind (placed_at (at c p t) g x) (λ v. bind q (λ vs. Ok (v ∷ vs))) ≡ placed_at (at c p u) (spot_next x g (size t + k)) (bind x (λ v. bind y (λ vs. Ok (v ∷ vs))))
first_read c p g k t u (Ok v) y q e = rw e (onward c p k t u v y)
first_read c p g k t u (Err d) y q e = refl

is_ok-placed : {M : Type 0} (s : Seen) (k : ℕ) (r : Result M DeError) → is_ok (placed_at s k r) ≡ is_ok r
is_ok-placed s k (Ok v) = refl
is_ok-placed s k (Err e) = refl

notes_cond : (s : Seen) (b : Bool) (ns : List Note) (ls : List Refusal) → ls ≡ placed_notes s ns → cond b ls [] ≡ placed_notes s (cond b ns [])
notes_cond s true ns ls e = e
notes_cond s false ns ls e = refl

-- ---- a row

module _ {M : Type 0} where
  row-placed : (c : Bool) (p : ℕ) (u : Tree) (rs : List (Reader M)) (ts : List Tree) → seen_reads rs (row c p ts) ≡ placed_at (at c p u) (row_spot rs ts) (row_reads rs ts)
  row-placed c p u [] ts = refl
  row-placed c p u (r ∷ rs) [] = refl
  row-placed c p u (r ∷ rs) (t ∷ ts) = first_read c p (r.spot t) (row_spot rs ts) t u (r.reads t) (row_reads rs ts) _ (row-placed c (behind c p t) u rs ts)

  row-logged : (c : Bool) (p : ℕ) (u : Tree) (rs : List (Reader M)) (ts : List Tree) → seen_logs rs (row c p ts) ≡ placed_notes (at c p u) (row_skips rs ts)
  row-logged c p u [] ts = refl
  row-logged c p u (r ∷ rs) [] = refl
  row-logged c p u (r ∷ rs) (t ∷ ts) =
      let later = row-logged c (behind c p t) u rs ts ∙ notes_move c p t u (row_skips rs ts) in
      rw (is_ok-placed (at c p t) (r.spot t) (r.reads t), map-append (placed_note (at c p u)) (r.skips t) (cond (is_ok (r.reads t)) (moved (size t) (row_skips rs ts)) []))
      (ap (λ ls. placed_notes (at c p u) (r.skips t) ++ ls) (notes_cond (at c p u) (is_ok (r.reads t)) (moved (size t) (row_skips rs ts)) _ later))

-- ---- a node

-- numbers from the first child on, and from the node on
below : (c : Bool) (p k : ℕ) (t u : Tree) → place_at (at c (place_at (at c p t) 1) u) k ≡ place_at (at c p t) (1 + k)
below true p k t u = omega arith
below false p k t u = refl

notes_below : (s : Seen) (u : Tree) (ns : List Note) → placed_notes (at s.counts (place_at s 1) u) ns ≡ placed_notes s (moved 1 ns)
notes_below s u [] = refl
notes_below s u (n ∷ ns) = rw (below s.counts s.place n.number s.tree u, notes_below s u ns) refl

module _ {M : Type 0} (f : Plans M) (m : Mode) (s : Seen) where
  ended : (k : ℕ) (x : Result (List M) DeError) →
      bind (placed_at (at s.counts (place_at s 1) s.tree) k x) (λ vs. placed_at s 0 ((f m s.tree).makes vs)) ≡ placed_at s (spot_next x (1 + k) 0) (bind x (f m s.tree).makes)
  ended k (Ok vs) = refl
  ended k (Err e) = ap (λ (n : ℕ). Err (record { error = e; place = n })) (below s.counts s.place k s.tree s.tree)

  pub plan-placed : bind (seen_reads (f m s.tree).readers (children_seen s)) (λ vs. placed_at s 0 ((f m s.tree).makes vs)) ≡ placed (plan_reads f m) (plan_spot f m) s
  plan-placed =
      ap (λ x. bind x (λ vs. placed_at s 0 ((f m s.tree).makes vs))) (row-placed s.counts (place_at s 1) s.tree (f m s.tree).readers (children s.tree))
      ∙ ended (row_spot (f m s.tree).readers (children s.tree)) (row_reads (f m s.tree).readers (children s.tree))

  pub plan-logged : seen_logs (f m s.tree).readers (children_seen s) ≡ placed_notes s (plan_skips f m s.tree)
  plan-logged = row-logged s.counts (place_at s 1) s.tree (f m s.tree).readers (children s.tree) ∙ notes_below s s.tree (row_skips (f m s.tree).readers (children s.tree))

-- the keys and values of entries that have their places
pub turns-row : (c : Bool) (p : ℕ) (es : List (Tree × Tree)) → seen_turns (entry_row c p es) ≡ row c p (by_turns es)
turns-row c p [] = refl
turns-row c p (e ∷ es) = rw (turns-row c (behind c (behind c p e.0) e.1) es) refl
