-- An array that is filled from items in turn: what is left to be read, and how it ends.
use Rattle.std.proofs.Common.{◌≡◌, ◌<◌, ◌+◌, ℕ, zero, suc, List, [], ◌∷◌, ◌++◌, length, map, take, set, replicate, cond, is_ok, Option, Some, None, option_map, Result, Ok, Err, refl, ap, sym, ◌∙◌, subst, append_assoc, append-nil, zero-add, arith}
use Rattle.std.proofs.lemmas.List.{take_more_set, take_all, map-append, length-set}
use Rattle.sw_tree.specs.Laws.Logs.{gained_none, gained_more, gained_all, cut_within}
use Rattle.sw_tree.specs.Logged.{HasGained, IsCut}
use Rattle.sw_tree.specs.Meaning.{Meaning}
use Rattle.sw_tree.specs.Placed.{placed, placed_notes}
use Rattle.sw_tree.specs.Seen.{Seen}
use Rattle.sw_tree.specs.Steps.{bind}
use Rattle.sw_tree.specs.declared.mode.Mode.{Mode}
use Rattle.sw_tree.specs.declared.fail.Refusal.{Refusal}
use Rattle.sw_core.specs.Inner.Parts.{row_seen}
use Rattle.sw_core.specs.Inner.Rows.{seen_logs}
use Rattle.sw_core.specs.Parts.{Reading, in_mode, all_in}
use Rattle.sw_core.specs.Rows.{Reader}

-- what a row answers, where these values were read before it
abbrev pub behind_these : List Meaning → Result (Option (List Meaning)) Refusal → Result (Option (List Meaning)) Refusal
behind_these us r = bind r (λ o. Ok (option_map (λ vs. us ++ vs) o))

behind_none : (r : Result (Option (List Meaning)) Refusal) → r ≡ behind_these [] r
behind_none (Ok (Some vs)) = refl
behind_none (Ok None) = refl
behind_none (Err e) = refl

behind_more : (us : List Meaning) (v : Meaning) (r : Result (Option (List Meaning)) Refusal) → behind_these us (bind r (λ o. Ok (option_map (λ vs. v ∷ vs) o))) ≡ behind_these (us ++ v ∷ []) r
behind_more us v (Ok (Some vs)) = ap (λ (l : List Meaning). Ok (Some l)) (sym (append_assoc us (v ∷ []) vs))
behind_more us v (Ok None) = refl
behind_more us v (Err e) = refl

module _ {T : Type 0} (f : T → Meaning) (x : Reading) (m : Mode) (n : ℕ) (all : List Seen) (old : List Refusal) where
  abbrev pub row_of : ℕ → List (Reader Meaning)
  row_of k = all_in m (replicate k x)

  -- so many values are there, and as many items as are left are still to be read
  pub record Filling (index : ℕ) (values : List T) (rest : List Seen) (log : List Refusal) : Type 0 where
    pub left : ℕ
    pub count : index + left ≡ n
    pub room : length values ≡ n
    pub answer : row_seen (row_of n) all ≡ behind_these (map f (take index values)) (row_seen (row_of left) rest)
    pub logs : HasGained old log (seen_logs (row_of n) all) (seen_logs (row_of left) rest)

  pub start : (values : List T) → length values ≡ n → Filling 0 values all old
  start values e = record { left = n; count = zero-add n; room = e; answer = behind_none (row_seen (row_of n) all); logs = gained_none old (seen_logs (row_of n) all) }

  module _ (index : ℕ) (values : List T) (rest : List Seen) (log : List Refusal) (h : Filling index values rest log) where
    abbrev r : Reader Meaning
    r = in_mode m x

    abbrev got : List Meaning
    got = map f (take index values)

    -- what is left, under other names
    answer_at : (k : ℕ) (q : List Seen) → h.left ≡ k → rest ≡ q → row_seen (row_of n) all ≡ behind_these got (row_seen (row_of k) q)
    answer_at k q e i =
        subst (λ (j : ℕ). row_seen (row_of n) all ≡ behind_these got (row_seen (row_of j) q)) e (subst (λ (y : List Seen). row_seen (row_of n) all ≡ behind_these got (row_seen (row_of h.left) y)) i h.answer)

    logs_at : (k : ℕ) (q : List Seen) → h.left ≡ k → rest ≡ q → HasGained old log (seen_logs (row_of n) all) (seen_logs (row_of k) q)
    logs_at k q e i =
        subst (λ (j : ℕ). HasGained old log (seen_logs (row_of n) all) (seen_logs (row_of j) q)) e (subst (λ (y : List Seen). HasGained old log (seen_logs (row_of n) all) (seen_logs (row_of h.left) y)) i h.logs)

    -- there is one more to be read
    one_more : (left : ℕ) → index + left ≡ n → index < n → (k : ℕ) × (left ≡ suc k)
    one_more zero e l = absurd (omega (arith, e, l))
    one_more (suc k) e l = (k, refl)

    -- no item is left
    pub short : index < n → rest ≡ [] → (row_seen (row_of n) all ≡ Ok None) × (log ≡ old ++ seen_logs (row_of n) all)
    short l e = let k = one_more h.left h.count l in (answer_at (suc k.0) [] k.1 e, gained_all old log (seen_logs (row_of n) all) (logs_at (suc k.0) [] k.1 e))

    module _ (l : index < n) (s : Seen) (ss : List Seen) (first : rest ≡ s ∷ ss) where
      abbrev notes : List Refusal
      notes = placed_notes s (r.skips s.tree)

      abbrev One : ℕ → Type 0
      One k = (row_seen (row_of n) all ≡ behind_these got (row_seen (row_of (suc k)) (s ∷ ss))) × HasGained old log (seen_logs (row_of n) all) (seen_logs (row_of (suc k)) (s ∷ ss)) × (index + suc k ≡ n)

      here : (k : ℕ) × One k
      here = let k = one_more h.left h.count l in (k.0, (answer_at (suc k.0) (s ∷ ss) k.1 first, logs_at (suc k.0) (s ∷ ss) k.1 first, subst (λ (j : ℕ). index + j ≡ n) k.1 h.count))

      -- by what the next item is read as
      abbrev Answered : ℕ → Result Meaning Refusal → Type 0
      Answered k y = row_seen (row_of n) all ≡ behind_these got (bind y (λ v. bind (row_seen (row_of k) ss) (λ o. Ok (option_map (λ vs. v ∷ vs) o))))

      abbrev Gained : ℕ → Result Meaning Refusal → Type 0
      Gained k y = HasGained old log (seen_logs (row_of n) all) (notes ++ cond (is_ok y) (seen_logs (row_of k) ss) [])

      answered : (y : Result Meaning Refusal) → placed r.reads r.spot s ≡ y → Answered here.0 y
      answered y p = subst (Answered here.0) p here.1.0

      has_gained : (y : Result Meaning Refusal) → placed r.reads r.spot s ≡ y → Gained here.0 y
      has_gained y p = subst (Gained here.0) p here.1.1

      pub refused : (e : Refusal) → placed r.reads r.spot s ≡ Err e → row_seen (row_of n) all ≡ Err e
      refused e p = answered (Err e) p

      pub refused_logs : (e : Refusal) (new : List Refusal) → placed r.reads r.spot s ≡ Err e → new ≡ log ++ notes → new ≡ old ++ seen_logs (row_of n) all
      refused_logs e new p i = gained_all old new (seen_logs (row_of n) all) (gained_more old log new (seen_logs (row_of n) all) notes [] (has_gained (Err e) p) i)

      pub cut : (new : List Refusal) → IsCut log new notes → IsCut old new (seen_logs (row_of n) all)
      cut new c = cut_within old log new (seen_logs (row_of n) all) notes (cond (is_ok (placed r.reads r.spot s)) (seen_logs (row_of here.0) ss) []) here.1.1 c

      pub next : (v : T) (new : List Refusal) → placed r.reads r.spot s ≡ Ok (f v) → new ≡ log ++ notes → Filling (index + 1) (set values index v) ss new
      next v new p i =
          let k = here.0 in
          let more : map f (take (index + 1) (set values index v)) ≡ got ++ f v ∷ [] =
          ap (map f) (take_more_set values index v (omega (arith, l, h.room))) ∙ map-append f (take index values) (v ∷ []) in
          record {
            left = k;
            count = omega (arith, here.1.2);
            room = length-set values index v ∙ h.room;
            answer = answered (Ok (f v)) p ∙ behind_more got (f v) (row_seen (row_of k) ss) ∙ ap (λ us. behind_these us (row_seen (row_of k) ss)) (sym more);
            logs = gained_more old log new (seen_logs (row_of n) all) notes (seen_logs (row_of k) ss) (has_gained (Ok (f v)) p) i;
          }

    -- all that is wanted is there
    full : index ≡ n → (left : ℕ) → index + left ≡ n → left ≡ 0
    full e zero c = refl
    full e (suc k) c = absurd (omega (arith, e, c))

    module _ (e : index ≡ n) where
      pub done_logs : log ≡ old ++ seen_logs (row_of n) all
      done_logs = gained_all old log (seen_logs (row_of n) all) (logs_at 0 rest (full e h.left h.count) refl)

      pub done : rest ≡ [] → row_seen (row_of n) all ≡ Ok (Some (map f values))
      done i =
          answer_at 0 [] (full e h.left h.count) i
          ∙ ap (λ (l : List Meaning). Ok (Some l)) (append-nil got ∙ ap (map f) (take_all index values (omega (arith, e, h.room))))

      pub too_many : (s : Seen) (ss : List Seen) → rest ≡ s ∷ ss → row_seen (row_of n) all ≡ Ok None
      too_many s ss i = answer_at 0 (s ∷ ss) (full e h.left h.count) i
