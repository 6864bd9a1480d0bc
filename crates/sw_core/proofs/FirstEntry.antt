-- The first entry of a map, read at its place, and the map that is refused for having more.
use Rattle.std.proofs.Common.{ℕ, ◌≡◌, Bool, List, [], ◌∷◌, length, Some, Result, Ok, Err, refl, ap, sym, ◌∙◌}
use Rattle.sw_tree.specs.Meaning.{Meaning}
use Rattle.sw_tree.specs.Mode.{at_key, at_value}
use Rattle.sw_tree.specs.Placed.{placed, placed_at, placed_notes}
use Rattle.sw_tree.specs.Seen.{Seen, place_at, behind, entry_row, entries_seen}
use Rattle.sw_tree.specs.Steps.{bind}
use Rattle.sw_tree.specs.Tree as node
use Rattle.sw_tree.specs.Tree.{Tree, pairs}
use Rattle.sw_tree.specs.declared.mode.Mode.{Mode}
use Rattle.sw_tree.specs.declared.fail.DeError.TheVariants.{InvalidLength}
use Rattle.sw_tree.specs.declared.fail.Refusal.{Refusal}
use Rattle.sw_elem.specs.Equations.{Reads, Spots, Skips}
use Rattle.sw_core.specs.Inner.Rows.{seen_reads, seen_logs, seen_turns}
use Rattle.sw_core.specs.OptionalPair.{first_alone, pair_made, optional_pair_plan, optional_pair_reads, optional_pair_spot, optional_pair_skips}
use Rattle.sw_core.specs.Rows.{Reader, reader, turns_by}
use Rattle.sw_core.proofs.Places.{plan-placed, plan-logged, turns-row}

abbrev view_of : Bool → ℕ → Tree → Seen
view_of c p t = record { tree = t; place = p; counts = c }

module _ (key value : Reader Meaning) where
  -- by the first entry alone, of entries that have their places
  abbrev first_by : List (Seen × Seen) → List (Reader Meaning)
  first_by xs = turns_by key value (first_alone xs)

  first_by-row : (c : Bool) (p : ℕ) (es : List (Tree × Tree)) → turns_by key value (first_alone es) ≡ first_by (entry_row c p es)
  first_by-row c p [] = refl
  first_by-row c p (e ∷ es) = refl

pub count-row : (c : Bool) (p : ℕ) (es : List (Tree × Tree)) → length es ≡ length (entry_row c p es)
count-row c p [] = refl
count-row c p (e ∷ es) = rw (count-row c (behind c (behind c p e.0) e.1) es) refl

module _ (r : Reads) (s : Spots) (k : Skips) (q : Reads) (z : Spots) (l : Skips) (m : Mode) where
  abbrev firsts : List (Seen × Seen) → List (Reader Meaning)
  firsts xs = first_by (reader r s k (at_key m)) (reader q z l (at_value m)) xs

  -- what the first entry answers and logs, and how many there are, is what the node does
  abbrev pub IsFirst : List (Seen × Seen) → Seen → Type 0
  IsFirst xs v =
      (bind (seen_reads (firsts xs) (seen_turns xs)) (λ vs. placed_at v 0 (pair_made (length xs) vs)) ≡ placed (optional_pair_reads r s k q z l m) (optional_pair_spot r s k q z l m) v)
      × (seen_logs (firsts xs) (seen_turns xs) ≡ placed_notes v (optional_pair_skips r s k q z l m v.tree))

  at_node : (t : Tree) (p : ℕ) (c : Bool) (xs : List (Seen × Seen)) → Some xs ≡ entries_seen (view_of c p t) → IsFirst xs (view_of c p t)
  at_node (node.map es) p c xs e =
      let v = view_of c p (node.map es) in
      let at = place_at v 1 in
      let is : xs ≡ entry_row c at (pairs es) = cc in
      let key = reader r s k (at_key m) in
      let value = reader q z l (at_value m) in
      rw (is, ← (first_by-row key value c at (pairs es)), ← (count-row c at (pairs es)), turns-row c at (pairs es))
      (plan-placed (optional_pair_plan r s k q z l) m v, plan-logged (optional_pair_plan r s k q z l) m v)
  at_node node.null p c xs e = absurd (cc)
  at_node (node.truth b) p c xs e = absurd (cc)
  at_node (node.int n) p c xs e = absurd (cc)
  at_node (node.text b) p c xs e = absurd (cc)
  at_node (node.bytes b) p c xs e = absurd (cc)
  at_node (node.list ts) p c xs e = absurd (cc)

  pub first_entry : (v : Seen) (xs : List (Seen × Seen)) → Some xs ≡ entries_seen v → IsFirst xs v
  first_entry v xs e = at_node v.tree v.place v.counts xs e

-- ---- what the code answers

several : (v : Seen) (e : Seen × Seen) (es : List (Seen × Seen)) (u w : Meaning) → (length (e ∷ es) ≡ 1 → ⊥) →
    placed_at v 0 (pair_made (length (e ∷ es)) (u ∷ w ∷ [])) ≡ Err (record { error = InvalidLength (length (e ∷ es)); place = place_at v 0 })
several v e [] u w n = absurd (n refl)
several v e (f ∷ es) u w n = refl

module _ (r : Reads) (s : Spots) (k : Skips) (q : Reads) (z : Spots) (l : Skips) (m : Mode) (v : Seen) (xs : List (Seen × Seen)) (e : Some xs ≡ entries_seen v) where
  abbrev whole : Result Meaning Refusal
  whole = placed (optional_pair_reads r s k q z l m) (optional_pair_spot r s k q z l m) v

  module _ (a b : Seen) (rest : List (Seen × Seen)) (i : xs ≡ (a, b) ∷ rest) where
    abbrev one : Result (List Meaning) Refusal
    one = seen_reads (reader r s k (at_key m) ∷ reader q z l (at_value m) ∷ []) (a ∷ b ∷ [])

    made : bind one (λ vs. placed_at v 0 (pair_made (length ((a, b) ∷ rest)) vs)) ≡ whole
    made = rw i at (first_entry r s k q z l m v xs e).0

    pub one_logged : placed_notes v (optional_pair_skips r s k q z l m v.tree) ≡ seen_logs (reader r s k (at_key m) ∷ reader q z l (at_value m) ∷ []) (a ∷ b ∷ [])
    one_logged = sym (rw i at (first_entry r s k q z l m v xs e).1)

    module _ (u w : Meaning) (p : one ≡ Ok (u ∷ w ∷ [])) where
      counted : placed_at v 0 (pair_made (length ((a, b) ∷ rest)) (u ∷ w ∷ [])) ≡ whole
      counted = ap (λ x. bind x (λ vs. placed_at v 0 (pair_made (length ((a, b) ∷ rest)) vs))) (sym p) ∙ made

      pub many_refused : (count : ℕ) → length xs ≡ count → (count ≡ 1 → ⊥) → whole ≡ Err (record { error = InvalidLength count; place = place_at v 0 })
      many_refused count c n =
          let counts : length ((a, b) ∷ rest) ≡ count = ap length (sym i) ∙ c in
          sym counted ∙ several v (a, b) rest u w (λ e. n (sym counts ∙ e)) ∙ ap (λ (k : ℕ). Err (record { error = InvalidLength k; place = place_at v 0 })) counts
