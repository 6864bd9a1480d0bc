-- A row that is read a part at a time: trees one after another, and those behind them.
use Rattle.std.proofs.Common.{◌≡◌, List, [], ◌∷◌, ◌++◌, length, cond, is_ok, Result, Ok, Err, refl, ap, sym, ◌∙◌, append_assoc, append-nil, arith}
use Rattle.sw_tree.specs.Meaning.{Meaning}
use Rattle.sw_tree.specs.Placed.{placed, placed_notes}
use Rattle.sw_tree.specs.Seen.{Seen}
use Rattle.sw_tree.specs.Steps.{bind}
use Rattle.sw_tree.specs.declared.fail.Refusal.{Refusal}
use Rattle.sw_tree.specs.Logged.{HasGained, IsCut}
use Rattle.sw_core.specs.Inner.Rows.{seen_reads, seen_logs, seen_turns, both, all_both}
use Rattle.sw_core.specs.Rows.{Reader, each_by, turns_by}
use Rattle.sw_tree.specs.Laws.Logs.{gained_none, gained_more, gained_all, cut_here, cut_within}

-- what a whole row gives, where its first part gave ys
abbrev pub prefixed : {B E : Type 0} → List B → Result (List B) E → Result (List B) E
prefixed ys (Ok zs) = Ok (ys ++ zs)
prefixed ys (Err e) = Err e

-- before anything is read
pub prefixed-none : {B E : Type 0} (r : Result (List B) E) → r ≡ prefixed [] r
prefixed-none (Ok ys) = refl
prefixed-none (Err e) = refl

prefixed-more : {B E : Type 0} (xs ys : List B) (r : Result (List B) E) → prefixed xs (prefixed ys r) ≡ prefixed (xs ++ ys) r
prefixed-more xs ys (Ok zs) = ap Ok (sym (append_assoc xs ys zs))
prefixed-more xs ys (Err e) = refl

-- ---- an item, and what is behind it

module _ {M : Type 0} (r : Reader M) (old now new gains : List Refusal) (xs : List Seen) (s : Seen) (ss : List Seen) (first : xs ≡ s ∷ ss) (h : HasGained old now gains (seen_logs (each_by r xs) xs)) where
  abbrev notes : List Refusal
  notes = placed_notes s (r.skips s.tree)

  abbrev later : List Refusal
  later = cond (is_ok (placed r.reads r.spot s)) (seen_logs (each_by r ss) ss) []

  pub item_cut : IsCut now new notes → IsCut old new gains
  item_cut c = cut_within old now new gains notes later (rw first at h) c

  pub item_behind : new ≡ now ++ notes → IsCut old new gains
  item_behind e = cut_here old new gains later (gained_more old now new gains notes later (rw first at h) e)

-- ---- several, and what is behind them

module _ {M : Type 0} where
  next_reads : (x : Result M Refusal) (y z w : Result (List M) Refusal) → w ≡ bind y (λ vs. prefixed vs z) →
      bind x (λ v. bind w (λ vs. Ok (v ∷ vs))) ≡ bind (bind x (λ v. bind y (λ vs. Ok (v ∷ vs)))) (λ vs. prefixed vs z)
  next_reads (Err d) y z w e = refl
  next_reads (Ok v) (Err d) z w e = rw e refl
  next_reads (Ok v) (Ok vs) (Ok us) w e = rw e refl
  next_reads (Ok v) (Ok vs) (Err d) w e = rw e refl

  next_logs : (x : Result M Refusal) (y : Result (List M) Refusal) (notes logs rest : List Refusal) →
      notes ++ cond (is_ok x) (logs ++ cond (is_ok y) rest []) [] ≡ (notes ++ cond (is_ok x) logs []) ++ cond (is_ok (bind x (λ v. bind y (λ vs. Ok (v ∷ vs))))) rest []
  next_logs (Err d) y notes logs rest = sym (append-nil (notes ++ []))
  next_logs (Ok v) (Err d) notes logs rest = sym (append_assoc notes logs [])
  next_logs (Ok v) (Ok vs) notes logs rest = sym (append_assoc notes logs rest)

  reads-append : (rs qs : List (Reader M)) (ss us : List Seen) → length rs ≡ length ss → seen_reads (rs ++ qs) (ss ++ us) ≡ bind (seen_reads rs ss) (λ vs. prefixed vs (seen_reads qs us))
  reads-append [] qs [] us e = prefixed-none (seen_reads qs us)
  reads-append [] qs (s ∷ ss) us e = absurd (omega (arith, e))
  reads-append (r ∷ rs) qs [] us e = absurd (omega (arith, e))
  reads-append (r ∷ rs) qs (s ∷ ss) us e = next_reads (placed r.reads r.spot s) (seen_reads rs ss) (seen_reads qs us) _ (reads-append rs qs ss us (omega (arith, e)))

  logs-append : (rs qs : List (Reader M)) (ss us : List Seen) → length rs ≡ length ss → seen_logs (rs ++ qs) (ss ++ us) ≡ seen_logs rs ss ++ cond (is_ok (seen_reads rs ss)) (seen_logs qs us) []
  logs-append [] qs [] us e = refl
  logs-append [] qs (s ∷ ss) us e = absurd (omega (arith, e))
  logs-append (r ∷ rs) qs [] us e = absurd (omega (arith, e))
  logs-append (r ∷ rs) qs (s ∷ ss) us e =
      let notes = placed_notes s (r.skips s.tree) in
      ap (λ l. notes ++ cond (is_ok (placed r.reads r.spot s)) l []) (logs-append rs qs ss us (omega (arith, e)))
      ∙ next_logs (placed r.reads r.spot s) (seen_reads rs ss) notes (seen_logs rs ss) (seen_logs qs us)

module _ {M : Type 0} (rs qs : List (Reader M)) (ss us : List Seen) (same : length rs ≡ length ss) where
  part_read : (ys vs : List M) → seen_reads rs ss ≡ Ok vs → prefixed ys (seen_reads (rs ++ qs) (ss ++ us)) ≡ prefixed (ys ++ vs) (seen_reads qs us)
  part_read ys vs p = ap (prefixed ys) (reads-append rs qs ss us same ∙ ap (λ x. bind x (λ ws. prefixed ws (seen_reads qs us))) p) ∙ prefixed-more ys vs (seen_reads qs us)

  module _ (old now new gains : List Refusal) (h : HasGained old now gains (seen_logs (rs ++ qs) (ss ++ us))) where
    split : HasGained old now gains (seen_logs rs ss ++ cond (is_ok (seen_reads rs ss)) (seen_logs qs us) [])
    split = rw (logs-append rs qs ss us same) at h

    part_gained : (vs : List M) → seen_reads rs ss ≡ Ok vs → new ≡ now ++ seen_logs rs ss → HasGained old new gains (seen_logs qs us)
    part_gained vs p e = gained_more old now new gains (seen_logs rs ss) (seen_logs qs us) (rw p at split) e

    part_cut : IsCut now new (seen_logs rs ss) → IsCut old new gains
    part_cut c = cut_within old now new gains (seen_logs rs ss) (cond (is_ok (seen_reads rs ss)) (seen_logs qs us) []) split c

    part_behind : new ≡ now ++ seen_logs rs ss → IsCut old new gains
    part_behind e = let rest = cond (is_ok (seen_reads rs ss)) (seen_logs qs us) [] in cut_here old new gains rest (gained_more old now new gains (seen_logs rs ss) rest split e)

-- ---- an entry, and the entries behind it

-- want of memory in a value, behind its key
pub second_cut : {M : Type 0} (r q : Reader M) (a b : Seen) (x : M) (old now new : List Refusal) → placed r.reads r.spot a ≡ Ok x → now ≡ old ++ placed_notes a (r.skips a.tree) →
    IsCut now new (placed_notes b (q.skips b.tree)) → IsCut old new (seen_logs (r ∷ q ∷ []) (a ∷ b ∷ []))
second_cut r q a b x old now new p e c =
    let whole = seen_logs (r ∷ q ∷ []) (a ∷ b ∷ []) in
    let after = part_gained (r ∷ []) (q ∷ []) (a ∷ []) (b ∷ []) refl old old now whole (gained_none old whole) (x ∷ []) (rw p refl) (rw p (e ∙ ap (λ l. old ++ l) (sym (append-nil (placed_notes a (r.skips a.tree)))))) in
    cut_within old now new whole (placed_notes b (q.skips b.tree)) (cond (is_ok (placed q.reads q.spot b)) [] []) after c

module _ {M : Type 0} (r q : Reader M) (xs : List (Seen × Seen)) (e : Seen × Seen) (es : List (Seen × Seen)) (first : xs ≡ e ∷ es) where
  abbrev rs : List (Reader M)
  rs = r ∷ q ∷ []

  abbrev ss : List Seen
  ss = e.0 ∷ e.1 ∷ []

  pub entry_read : (whole : Result (List M) Refusal) (ys vs zs : List M) → whole ≡ prefixed ys (seen_reads (turns_by r q xs) (seen_turns xs)) → seen_reads rs ss ≡ Ok vs → zs ≡ ys ++ vs →
      whole ≡ prefixed zs (seen_reads (turns_by r q es) (seen_turns es))
  entry_read whole ys vs zs h p i =
      let after = seen_reads (turns_by r q es) (seen_turns es) in
      let now : whole ≡ prefixed ys (seen_reads (rs ++ turns_by r q es) (ss ++ seen_turns es)) = rw first at h in
      now ∙ part_read rs (turns_by r q es) ss (seen_turns es) refl ys vs p ∙ ap (λ (l : List M). prefixed l after) (sym i)

  -- the first entry that is refused decides
  pub entry_refused : (whole : Result (List M) Refusal) (ys : List M) (d : Refusal) → whole ≡ prefixed ys (seen_reads (turns_by r q xs) (seen_turns xs)) → seen_reads rs ss ≡ Err d → whole ≡ Err d
  entry_refused whole ys d h p =
      let after = seen_reads (turns_by r q es) (seen_turns es) in
      let now : whole ≡ prefixed ys (seen_reads (rs ++ turns_by r q es) (ss ++ seen_turns es)) = rw first at h in
      now ∙ ap (prefixed ys) (reads-append rs (turns_by r q es) ss (seen_turns es) refl ∙ ap (λ x. bind x (λ ws. prefixed ws after)) p)

  module _ (old now new gains : List Refusal) (h : HasGained old now gains (seen_logs (turns_by r q xs) (seen_turns xs))) where
    split_on : HasGained old now gains (seen_logs (rs ++ turns_by r q es) (ss ++ seen_turns es))
    split_on = rw first at h

    pub entry_gained : (vs : List M) → seen_reads rs ss ≡ Ok vs → new ≡ now ++ seen_logs rs ss → HasGained old new gains (seen_logs (turns_by r q es) (seen_turns es))
    entry_gained vs p i = part_gained rs (turns_by r q es) ss (seen_turns es) refl old now new gains split_on vs p i

    pub entry_refused_logs : (d : Refusal) → seen_reads rs ss ≡ Err d → new ≡ now ++ seen_logs rs ss → new ≡ old ++ gains
    entry_refused_logs d p i =
        let after = seen_logs (turns_by r q es) (seen_turns es) in
        gained_all old new gains (gained_more old now new gains (seen_logs rs ss) [] (rw (logs-append rs (turns_by r q es) ss (seen_turns es) refl, p) at split_on) i)

    pub entry_cut : IsCut now new (seen_logs rs ss) → IsCut old new gains
    entry_cut c = part_cut rs (turns_by r q es) ss (seen_turns es) refl old now new gains split_on c

    pub entry_behind : new ≡ now ++ seen_logs rs ss → IsCut old new gains
    entry_behind i = part_behind rs (turns_by r q es) ss (seen_turns es) refl old now new gains split_on i

pub all_both-push : {A B : Type 0} (f : A → Meaning) (g : B → Meaning) (ps : List (A × B)) (p : A × B) → all_both f g (ps ++ p ∷ []) ≡ all_both f g ps ++ both f g p
all_both-push f g [] p = refl
all_both-push f g (q ∷ ps) p = ap (λ vs. f q.0 ∷ g q.1 ∷ vs) (all_both-push f g ps p)
