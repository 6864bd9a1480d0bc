-- An array of pairs that is filled from entries in turn: what is left to be read, how it ends, and the map whose entries they are.
use Rattle.std.proofs.Common.{◌≡◌, ◌<◌, ◌+◌, ℕ, zero, suc, Bool, true, false, List, [], ◌∷◌, ◌++◌, length, take, set, cond, ◌==◌, Some, Result, Ok, Err, refl, ap, sym, ◌∙◌, subst, append-nil, zero-add, arith, eq-eqb, eqb-true}
use Rattle.std.proofs.lemmas.List.{take_more_set, take_all, length-set}
use Rattle.sw_tree.specs.Laws.Logs.{gained_none, gained_all}
use Rattle.sw_tree.specs.Logged.{HasGained, IsCut}
use Rattle.sw_tree.specs.Meaning.{Meaning, list, meanings}
use Rattle.sw_tree.specs.Meant.{list_meaning, pair_meaning}
use Rattle.sw_tree.specs.Mode.{at_key, at_value}
use Rattle.sw_tree.specs.Placed.{placed, placed_at, placed_notes}
use Rattle.sw_tree.specs.Seen.{Seen, place_at, behind, entry_row, entries_seen}
use Rattle.sw_tree.specs.Steps.{bind}
use Rattle.sw_tree.specs.Tree as node
use Rattle.sw_tree.specs.Tree.{Tree, pairs}
use Rattle.sw_tree.specs.declared.mode.Mode.{Mode}
use Rattle.sw_tree.specs.declared.fail.DeError.TheVariants.{InvalidLength}
use Rattle.sw_tree.specs.declared.fail.Refusal.{Refusal}
use Rattle.sw_elem.specs.Equations.{Reads, Spots, Skips}
use Rattle.sw_core.specs.Entries.{twos}
use Rattle.sw_core.specs.EntryArray.{entry_array_plan, entry_array_reads, entry_array_spot, entry_array_skips}
use Rattle.sw_core.specs.Inner.Rows.{seen_reads, seen_logs, seen_turns, both, all_both}
use Rattle.sw_core.specs.Rows.{Reader, reader, turns_by}
use Rattle.sw_core.specs.Tuple.{tuple_made}
use Rattle.sw_core.proofs.Children.{twos-all_both}
use Rattle.sw_core.proofs.FirstEntry.{count-row}
use Rattle.sw_core.proofs.Places.{plan-placed, plan-logged, turns-row}
use Rattle.sw_core.proofs.Rows.{prefixed, prefixed-none, entry_read, entry_refused, entry_refused_logs, entry_gained, entry_cut, all_both-push}

take-none : {A : Type 0} (k : ℕ) → take {A = A} k [] ≡ []
take-none zero = refl
take-none (suc k) = refl

module _ {A B : Type 0} (f : A → Meaning) (g : B → Meaning) (key value : Reader Meaning) (n : ℕ) (all : List (Seen × Seen)) (old : List Refusal) where
  abbrev answers : List (Seen × Seen) → Result (List Meaning) Refusal
  answers xs = seen_reads (turns_by key value xs) (seen_turns xs)

  abbrev logged : List (Seen × Seen) → List Refusal
  logged xs = seen_logs (turns_by key value xs) (seen_turns xs)

  -- so many pairs are there, and as many entries as are left are still to be read
  pub record FillingPairs (index : ℕ) (held : List (A × B)) (rest : List (Seen × Seen)) (log : List Refusal) : Type 0 where
    pub left : ℕ
    pub count : index + left ≡ n
    pub room : length held ≡ n
    pub found : length all ≡ index + length rest
    pub answer : answers (take n all) ≡ prefixed (all_both f g (take index held)) (answers (take left rest))
    pub logs : HasGained old log (logged (take n all)) (logged (take left rest))

  pub start : (held : List (A × B)) → length held ≡ n → FillingPairs 0 held all old
  start held e = record {
    left = n;
    count = zero-add n;
    room = e;
    found = sym (zero-add (length all));
    answer = prefixed-none (answers (take n all));
    logs = gained_none old (logged (take n all));
  }

  module _ (index : ℕ) (held : List (A × B)) (rest : List (Seen × Seen)) (log : List Refusal) (h : FillingPairs index held rest log) where
    abbrev got : List Meaning
    got = all_both f g (take index held)

    -- what is left, under other names
    answer_at : (ys : List (Seen × Seen)) → take h.left rest ≡ ys → answers (take n all) ≡ prefixed got (answers ys)
    answer_at ys e = subst (λ (l : List (Seen × Seen)). answers (take n all) ≡ prefixed got (answers l)) e h.answer

    logs_at : (ys : List (Seen × Seen)) → take h.left rest ≡ ys → HasGained old log (logged (take n all)) (logged ys)
    logs_at ys e = subst (λ (l : List (Seen × Seen)). HasGained old log (logged (take n all)) (logged l)) e h.logs

    -- where nothing more is to be read, all that was found is there
    ended : take h.left rest ≡ [] → take index held ≡ take (length all) held → (answers (take n all) ≡ Ok (all_both f g (take (length all) held))) × (log ≡ old ++ logged (take n all))
    ended e i = (
      answer_at [] e ∙ ap (λ (l : List Meaning). Ok l) (append-nil got) ∙ ap (λ (l : List (A × B)). Ok (all_both f g l)) i,
      gained_all old log (logged (take n all)) (logs_at [] e),
    )

    -- no entry is left
    pub short : rest ≡ [] → (answers (take n all) ≡ Ok (all_both f g (take (length all) held))) × (log ≡ old ++ logged (take n all))
    short e =
        let none : take h.left rest ≡ [] = ap (take h.left) e ∙ take-none h.left in
        let nothing : length rest ≡ 0 = ap (λ (l : List (Seen × Seen)). length l) e in
        let count : length all ≡ index = omega (arith, h.found, nothing) in
        ended none (ap (λ (k : ℕ). take k held) (sym count))

    -- all that is wanted is there
    pub full : index ≡ n → (answers (take n all) ≡ Ok (all_both f g (take (length all) held))) × (log ≡ old ++ logged (take n all))
    full e =
        let none : take h.left rest ≡ [] = ap (λ (k : ℕ). take k rest) (no_more h.left h.count) in
        ended none (take_all index held (omega (arith, e, h.room)) ∙ sym (take_all (length all) held (omega (arith, e, h.room, h.found))))
      where
        no_more : (k : ℕ) → index + k ≡ n → k ≡ 0
        no_more zero c = refl
        no_more (suc k) c = absurd (omega (arith, e, c))

    module _ (l : index < n) (s : Seen × Seen) (ss : List (Seen × Seen)) (first : rest ≡ s ∷ ss) where
      abbrev rs : List (Reader Meaning)
      rs = key ∷ value ∷ []

      abbrev two : List Seen
      two = s.0 ∷ s.1 ∷ []

      one_more : (k : ℕ) → index + k ≡ n → (j : ℕ) × (k ≡ suc j)
      one_more zero c = absurd (omega (arith, c, l))
      one_more (suc j) c = (j, refl)

      -- one is to be read now, and so many behind it
      now_left : (k : ℕ) × (h.left ≡ suc k)
      now_left = one_more h.left h.count

      this : take h.left rest ≡ s ∷ take now_left.0 ss
      this = ap (λ (k : ℕ). take k rest) now_left.1 ∙ ap (take (suc now_left.0)) first

      pub refused : (e : Refusal) → seen_reads rs two ≡ Err e → answers (take n all) ≡ Err e
      refused e p = entry_refused key value (take h.left rest) s (take now_left.0 ss) this (answers (take n all)) got e h.answer p

      pub refused_logs : (e : Refusal) (new : List Refusal) → seen_reads rs two ≡ Err e → new ≡ log ++ seen_logs rs two → new ≡ old ++ logged (take n all)
      refused_logs e new p i = entry_refused_logs key value (take h.left rest) s (take now_left.0 ss) this old log new (logged (take n all)) h.logs e p i

      pub cut : (new : List Refusal) → IsCut log new (seen_logs rs two) → IsCut old new (logged (take n all))
      cut new c = entry_cut key value (take h.left rest) s (take now_left.0 ss) this old log new (logged (take n all)) h.logs c

      pub next : (pair : A × B) (new : List Refusal) → seen_reads rs two ≡ Ok (both f g pair) → new ≡ log ++ seen_logs rs two → FillingPairs (index + 1) (set held index pair) ss new
      next pair new p i =
          let put : all_both f g (take (index + 1) (set held index pair)) ≡ got ++ both f g pair =
          ap (all_both f g) (take_more_set held index pair (omega (arith, l, h.room))) ∙ all_both-push f g (take index held) pair in
          record {
            left = now_left.0;
            count = omega (arith, h.count, now_left.1);
            room = length-set held index pair ∙ h.room;
            found = omega (arith, h.found, ap (λ (l : List (Seen × Seen)). length l) first);
            answer = entry_read key value (take h.left rest) s (take now_left.0 ss) this (answers (take n all)) got (both f g pair) (all_both f g (take (index + 1) (set held index pair))) h.answer p put;
            logs = entry_gained key value (take h.left rest) s (take now_left.0 ss) this old log new (logged (take n all)) h.logs (both f g pair) p i;
          }

-- ---- the map whose entries they are

abbrev view_of : Bool → ℕ → Tree → Seen
view_of c p t = record { tree = t; place = p; counts = c }

module _ (key value : Reader Meaning) where
  abbrev by : {X : Type 0} → List X → List (Reader Meaning)
  by xs = turns_by key value xs

  by-row : (n : ℕ) (c : Bool) (p : ℕ) (es : List (Tree × Tree)) → by (take n es) ≡ by (take n (entry_row c p es))
  by-row zero c p es = refl
  by-row (suc n) c p [] = refl
  by-row (suc n) c p (e ∷ es) = ap (λ rs. key ∷ value ∷ rs) (by-row n c (behind c (behind c p e.0) e.1) es)

  -- trees behind those that have readers are left
  first_read : (n : ℕ) (xs : List (Seen × Seen)) → seen_reads (by (take n xs)) (seen_turns xs) ≡ seen_reads (by (take n xs)) (seen_turns (take n xs))
  first_read zero xs = refl
  first_read (suc n) [] = refl
  first_read (suc n) (x ∷ xs) = rw (first_read n xs) refl

  first_logged : (n : ℕ) (xs : List (Seen × Seen)) → seen_logs (by (take n xs)) (seen_turns xs) ≡ seen_logs (by (take n xs)) (seen_turns (take n xs))
  first_logged zero xs = refl
  first_logged (suc n) [] = refl
  first_logged (suc n) (x ∷ xs) = rw (first_logged n xs) refl

module _ (n : ℕ) (r : Reads) (s : Spots) (k : Skips) (q : Reads) (z : Spots) (l : Skips) (m : Mode) where
  abbrev key_reader : Reader Meaning
  key_reader = reader r s k (at_key m)

  abbrev value_reader : Reader Meaning
  value_reader = reader q z l (at_value m)

  abbrev firsts_read : List (Seen × Seen) → Result (List Meaning) Refusal
  firsts_read xs = seen_reads (turns_by key_reader value_reader (take n xs)) (seen_turns (take n xs))

  abbrev firsts_logged : List (Seen × Seen) → List Refusal
  firsts_logged xs = seen_logs (turns_by key_reader value_reader (take n xs)) (seen_turns (take n xs))

  -- what the first entries answer and log, and how many there are, is what the node does
  abbrev IsArray : List (Seen × Seen) → Seen → Type 0
  IsArray xs v =
      (bind (firsts_read xs) (λ vs. placed_at v 0 (tuple_made n (length xs) (twos vs))) ≡ placed (entry_array_reads n r s k q z l m) (entry_array_spot n r s k q z l m) v)
      × (firsts_logged xs ≡ placed_notes v (entry_array_skips n r s k q z l m v.tree))

  at_node : (t : Tree) (p : ℕ) (c : Bool) (xs : List (Seen × Seen)) → Some xs ≡ entries_seen (view_of c p t) → IsArray xs (view_of c p t)
  at_node (node.map es) p c xs e =
      let v = view_of c p (node.map es) in
      let at = place_at v 1 in
      let is : xs ≡ entry_row c at (pairs es) = cc in
      rw (is, ← (first_read key_reader value_reader n (entry_row c at (pairs es))), ← (first_logged key_reader value_reader n (entry_row c at (pairs es))), ← (by-row key_reader value_reader n c at (pairs es)), ← (count-row c at (pairs es)), turns-row c at (pairs es))
      (plan-placed (entry_array_plan n r s k q z l) m v, plan-logged (entry_array_plan n r s k q z l) m v)
  at_node node.null p c xs e = absurd (cc)
  at_node (node.truth b) p c xs e = absurd (cc)
  at_node (node.int i) p c xs e = absurd (cc)
  at_node (node.text b) p c xs e = absurd (cc)
  at_node (node.bytes b) p c xs e = absurd (cc)
  at_node (node.list ts) p c xs e = absurd (cc)

  module _ (v : Seen) (xs : List (Seen × Seen)) (e : Some xs ≡ entries_seen v) where
    abbrev answer : Result Meaning Refusal
    answer = placed (entry_array_reads n r s k q z l m) (entry_array_spot n r s k q z l m) v

    pub array_logged : firsts_logged xs ≡ placed_notes v (entry_array_skips n r s k q z l m v.tree)
    array_logged = (at_node v.tree v.place v.counts xs e).1

    ended_by : (x : Result (List Meaning) Refusal) → firsts_read xs ≡ x → answer ≡ bind x (λ vs. placed_at v 0 (tuple_made n (length xs) (twos vs)))
    ended_by x p = sym (at_node v.tree v.place v.counts xs e).0 ∙ ap (λ y. bind y (λ vs. placed_at v 0 (tuple_made n (length xs) (twos vs)))) p

    pub array_refused : (d : Refusal) → firsts_read xs ≡ Err d → answer ≡ Err d
    array_refused d p = ended_by (Err d) p

    -- as many entries as are wanted
    pub array_made : {A B : Type 0} (f : A → Meaning) (g : B → Meaning) (ps : List (A × B)) → length ps ≡ n → length xs ≡ n → firsts_read xs ≡ Ok (all_both f g (take (length xs) ps)) → answer ≡ Ok (list_meaning (pair_meaning f g) ps)
    array_made f g ps c i p =
        let all : take (length xs) ps ≡ ps = take_all (length xs) ps (omega (arith, c, i)) in
        ended_by (Ok (all_both f g ps)) (p ∙ ap (λ us. Ok (all_both f g us)) all)
        ∙ rw (eq-eqb (length xs) n i) (ap (λ (us : List Meaning). Ok (list (meanings us))) (twos-all_both f g ps))

    -- another number of entries
    pub array_counted : (vs : List Meaning) (count : ℕ) → length xs ≡ count → (count ≡ n → ⊥) → firsts_read xs ≡ Ok vs → answer ≡ Err (record { error = InvalidLength count; place = place_at v 0 })
    array_counted vs count c ne p = ended_by (Ok vs) p ∙ rw c (uncounted (count == n) refl)
      where
        uncounted : (b : Bool) → (count == n) ≡ b → placed_at v 0 (cond (count == n) (Ok (list (meanings (twos vs)))) (Err (InvalidLength count))) ≡ Err (record { error = InvalidLength count; place = place_at v 0 })
        uncounted true i = absurd (ne (eqb-true count n i))
        uncounted false i = rw i refl
