-- What names a node's variant tells how the node is read.
use Rattle.std.proofs.Common.{ℕ, ◌≡◌, Bool, List, [], ◌∷◌, ◌++◌, length, cond, is_ok, true, false, Some, None, Result, Ok, Err, refl, ap, sym, subst, ◌∙◌, append-nil, arith}
use Rattle.sw_tree.specs.Building.{puts, IsBuilt, IsPut, BuildsMaps}
use Rattle.sw_tree.specs.Meaning.{Meaning, nothing, case}
use Rattle.sw_tree.specs.Mode.{at_value}
use Rattle.sw_tree.specs.Placed.{placed, placed_at, placed_notes}
use Rattle.sw_tree.specs.Seen.{Seen, place_at, row, entry_row, entries_seen}
use Rattle.sw_tree.specs.Steps.{bind}
use Rattle.sw_tree.specs.Tree as node
use Rattle.sw_tree.specs.Tree.{Tree, Entries, no_entries, entry, pairs, kind_of, text_at, len_of, by_turns}
use Rattle.sw_tree.specs.declared.mode.Kind.TheVariants as kind
use Rattle.sw_tree.specs.declared.mode.Mode.{Mode}
use Rattle.sw_tree.specs.declared.fail.DeError.{DeError}
use Rattle.sw_tree.specs.declared.fail.DeError.TheVariants as fail
use Rattle.sw_tree.specs.declared.fail.Refusal.{Refusal}
use Rattle.sw_tree.specs.declared.fail.SerError.{SerError}
use Rattle.sw_tree.specs.declared.fail.SerFail.{SerFail}
use Rattle.sw_elem.specs.Strings.{nothing_reads}
use Rattle.sw_core.specs.Fields.{IsFieldPut}
use Rattle.sw_core.specs.Inner.Rows.{seen_reads, seen_logs, seen_turns}
use Rattle.sw_core.specs.Inner.Tagged.{IsCase}
use Rattle.sw_core.specs.Parts.{Reading}
use Rattle.sw_core.specs.Tagged.{Names, variant_of, case_makes, key_plan, tagged_plan, tagged_reads, tagged_spot, tagged_skips, case_writes}
use Rattle.sw_core.specs.declared.tagged.Variant.TheVariants.{First, Second, Alone, Unknown}
use Rattle.sw_core.proofs.Places.{plan-placed, plan-logged, turns-row}

abbrev view_of : Bool → ℕ → Tree → Seen
view_of c p t = record { tree = t; place = p; counts = c }

abbrev refused_with : Seen → DeError → Refusal
refused_with s e = record { error = e; place = place_at s 0 }

-- the tree of the first key
abbrev first_tree : List (Seen × Seen) → Tree
first_tree [] = node.null
first_tree (e ∷ es) = e.0.tree

module _ (n : Names) (x y : Reading) (m : Mode) where
  abbrev pub answer : Seen → Result Meaning Refusal
  answer s = placed (tagged_reads n x y m) (tagged_spot n x y m) s

  abbrev pub logs : Seen → List Refusal
  logs s = placed_notes s (tagged_skips n x y m s.tree)

  -- ---- by itself

  pub text_alone : (s : Seen) (b : List ℕ) → s.tree ≡ node.text b → variant_of n b ≡ Alone → (answer s ≡ Ok (case 2 nothing)) × (logs s ≡ [])
  text_alone s b e h = (rw (e, h) refl, rw e refl)

  pub text_unknown : (s : Seen) (b : List ℕ) → s.tree ≡ node.text b → variant_of n b ≡ Unknown → (answer s ≡ Err (refused_with s fail.UnknownVariant)) × (logs s ≡ [])
  text_unknown s b e h = (rw (e, h) refl, rw e refl)

  pub text_first : (s : Seen) (b : List ℕ) → s.tree ≡ node.text b → variant_of n b ≡ First → (answer s ≡ Err (refused_with s (fail.InvalidType kind.Text))) × (logs s ≡ [])
  text_first s b e h = (rw (e, h) refl, rw e refl)

  pub text_second : (s : Seen) (b : List ℕ) → s.tree ≡ node.text b → variant_of n b ≡ Second → (answer s ≡ Err (refused_with s (fail.InvalidType kind.Text))) × (logs s ≡ [])
  text_second s b e h = (rw (e, h) refl, rw e refl)

  other_at : (t : Tree) (p : ℕ) (c : Bool) → text_at t ≡ None → entries_seen (view_of c p t) ≡ None → (answer (view_of c p t) ≡ Err (refused_with (view_of c p t) (fail.InvalidType (kind_of t)))) × (logs (view_of c p t) ≡ [])
  other_at (node.text b) p c h k = absurd (cc)
  other_at (node.map es) p c h k = absurd (cc)
  other_at node.null p c h k = (refl, refl)
  other_at (node.truth b) p c h k = (refl, refl)
  other_at (node.int z) p c h k = (refl, refl)
  other_at (node.bytes b) p c h k = (refl, refl)
  other_at (node.list ts) p c h k = (refl, refl)

  -- neither a text nor a map
  pub other : (s : Seen) → text_at s.tree ≡ None → entries_seen s ≡ None → (answer s ≡ Err (refused_with s (fail.InvalidType (kind_of s.tree)))) × (logs s ≡ [])
  other s h k = other_at s.tree s.place s.counts h k

  -- ---- a map

  many_at : (es : Entries) (p : ℕ) (c : Bool) (k : ℕ) → k ≡ length (pairs es) → (k ≡ 1 → ⊥) → (answer (view_of c p (node.map es)) ≡ Err (refused_with (view_of c p (node.map es)) (fail.InvalidLength k))) × (logs (view_of c p (node.map es)) ≡ [])
  many_at no_entries p c k e h = (rw e refl, refl)
  many_at (entry a b no_entries) p c k e h = absurd (h e)
  many_at (entry a b (entry d f es)) p c k e h = (rw e refl, refl)

  not_one_at : (t : Tree) (p : ℕ) (c : Bool) (xs : List (Seen × Seen)) (k : ℕ) → Some xs ≡ entries_seen (view_of c p t) → k ≡ len_of t → (k ≡ 1 → ⊥) →
      (answer (view_of c p t) ≡ Err (refused_with (view_of c p t) (fail.InvalidLength k))) × (logs (view_of c p t) ≡ [])
  not_one_at (node.map es) p c xs k i e h = many_at es p c k e h
  not_one_at node.null p c xs k i e h = absurd (cc)
  not_one_at (node.truth b) p c xs k i e h = absurd (cc)
  not_one_at (node.int z) p c xs k i e h = absurd (cc)
  not_one_at (node.text b) p c xs k i e h = absurd (cc)
  not_one_at (node.bytes b) p c xs k i e h = absurd (cc)
  not_one_at (node.list ts) p c xs k i e h = absurd (cc)

  -- not exactly one entry
  pub not_one : (s : Seen) (xs : List (Seen × Seen)) (k : ℕ) → Some xs ≡ entries_seen s → k ≡ len_of s.tree → (k ≡ 1 → ⊥) → (answer s ≡ Err (refused_with s (fail.InvalidLength k))) × (logs s ≡ [])
  not_one s xs k i e h = not_one_at s.tree s.place s.counts xs k i e h

  -- the one entry, each part at its place
  abbrev IsEntry : Seen → Seen → Seen → Type 0
  IsEntry s k t =
      (answer s ≡ bind (seen_reads (key_plan n x y m k.tree).readers (k ∷ t ∷ [])) (λ vs. placed_at s 0 ((key_plan n x y m k.tree).makes vs)))
      × (logs s ≡ seen_logs (key_plan n x y m k.tree).readers (k ∷ t ∷ []))

  entry_of_row : (a b : Tree) (p : ℕ) (c : Bool) (k t : Seen) → (k, t) ∷ [] ≡ entry_row c (place_at (view_of c p (node.map (entry a b no_entries))) 1) ((a, b) ∷ []) → IsEntry (view_of c p (node.map (entry a b no_entries))) k t
  entry_of_row a b p c k t e =
      let v = view_of c p (node.map (entry a b no_entries)) in
      let key : a ≡ k.tree = sym (ap first_tree e) in
      let both : row c (place_at v 1) (by_turns ((a, b) ∷ [])) ≡ k ∷ t ∷ [] = sym (ap seen_turns e ∙ turns-row c (place_at v 1) ((a, b) ∷ [])) in (
        sym (plan-placed (tagged_plan n x y) m v)
            ∙ ap (λ (l : List Seen). bind (seen_reads (key_plan n x y m a).readers l) (λ vs. placed_at v 0 ((key_plan n x y m a).makes vs))) both
            ∙ ap (λ (u : Tree). bind (seen_reads (key_plan n x y m u).readers (k ∷ t ∷ [])) (λ vs. placed_at v 0 ((key_plan n x y m u).makes vs))) key,
        sym (plan-logged (tagged_plan n x y) m v)
            ∙ ap (λ (l : List Seen). seen_logs (key_plan n x y m a).readers l) both
            ∙ ap (λ (u : Tree). seen_logs (key_plan n x y m u).readers (k ∷ t ∷ [])) key,
      )

  one_at : (t : Tree) (p : ℕ) (c : Bool) (k v : Seen) → Some ((k, v) ∷ []) ≡ entries_seen (view_of c p t) → IsEntry (view_of c p t) k v
  one_at (node.map (entry a b no_entries)) p c k v e = entry_of_row a b p c k v (cc)
  one_at (node.map no_entries) p c k v e = absurd (cc)
  one_at (node.map (entry a b (entry d f es))) p c k v e = absurd (cc)
  one_at node.null p c k v e = absurd (cc)
  one_at (node.truth b) p c k v e = absurd (cc)
  one_at (node.int z) p c k v e = absurd (cc)
  one_at (node.text b) p c k v e = absurd (cc)
  one_at (node.bytes b) p c k v e = absurd (cc)
  one_at (node.list ts) p c k v e = absurd (cc)

  pub one_entry : (s k v : Seen) → Some ((k, v) ∷ []) ≡ entries_seen s → IsEntry s k v
  one_entry s k v e = one_at s.tree s.place s.counts k v e

  -- ---- the key names the variant

  none_more : (ls : List Refusal) (b : Bool) → ls ++ cond b [] [] ≡ ls
  none_more ls true = append-nil ls
  none_more ls false = append-nil ls

  case_answer : (s : Seen) (i : ℕ) (r : Result Meaning Refusal) →
      bind (bind (bind r (λ u. Ok (u ∷ []))) (λ us. Ok (nothing ∷ us))) (λ vs. placed_at s 0 (case_makes i vs)) ≡ bind r (λ u. Ok (case i u))
  case_answer s i (Ok u) = refl
  case_answer s i (Err e) = refl

  module _ (s k v : Seen) (b : List ℕ) (e : Some ((k, v) ∷ []) ≡ entries_seen s) (name : k.tree ≡ node.text b) where
    whole : IsEntry s k v
    whole = one_entry s k v e

    pub key_unknown : variant_of n b ≡ Unknown → (answer s ≡ Err (refused_with k fail.UnknownVariant)) × (logs s ≡ [])
    key_unknown h = (whole.0 ∙ rw (name, h) refl, whole.1 ∙ rw (name, h) refl)

    pub first_answer : variant_of n b ≡ First → (answer s ≡ bind (placed (x.reads (at_value m)) (x.spot (at_value m)) v) (λ u. Ok (case 0 u))) × (logs s ≡ placed_notes v (x.skips (at_value m) v.tree))
    first_answer h = (
      whole.0 ∙ rw (name, h) (case_answer s 0 (placed (x.reads (at_value m)) (x.spot (at_value m)) v)),
      whole.1 ∙ rw (name, h) (none_more (placed_notes v (x.skips (at_value m) v.tree)) (is_ok (placed (x.reads (at_value m)) (x.spot (at_value m)) v))),
    )

    pub second_answer : variant_of n b ≡ Second → (answer s ≡ bind (placed (y.reads (at_value m)) (y.spot (at_value m)) v) (λ u. Ok (case 1 u))) × (logs s ≡ placed_notes v (y.skips (at_value m) v.tree))
    second_answer h = (
      whole.0 ∙ rw (name, h) (case_answer s 1 (placed (y.reads (at_value m)) (y.spot (at_value m)) v)),
      whole.1 ∙ rw (name, h) (none_more (placed_notes v (y.skips (at_value m) v.tree)) (is_ok (placed (y.reads (at_value m)) (y.spot (at_value m)) v))),
    )

    null_value : (t : Tree) → v.tree ≡ t → kind_of t ≡ kind.Null → t ≡ node.null
    null_value node.null i h = refl
    null_value (node.truth c) i h = absurd (cc)
    null_value (node.int z) i h = absurd (cc)
    null_value (node.text c) i h = absurd (cc)
    null_value (node.bytes c) i h = absurd (cc)
    null_value (node.list ts) i h = absurd (cc)
    null_value (node.map es) i h = absurd (cc)

    pub alone_null : variant_of n b ≡ Alone → kind_of v.tree ≡ kind.Null → (answer s ≡ Ok (case 2 nothing)) × (logs s ≡ [])
    alone_null h j = let i = null_value v.tree refl j in (whole.0 ∙ rw (name, h, i) refl, whole.1 ∙ rw (name, h, i) refl)

    other_value : (t : Tree) → (kind_of t ≡ kind.Null → ⊥) → nothing_reads (at_value m) t ≡ Err (fail.InvalidType (kind_of t))
    other_value node.null h = absurd (h refl)
    other_value (node.truth c) h = refl
    other_value (node.int z) h = refl
    other_value (node.text c) h = refl
    other_value (node.bytes c) h = refl
    other_value (node.list ts) h = refl
    other_value (node.map es) h = refl

    pub alone_other : variant_of n b ≡ Alone → (kind_of v.tree ≡ kind.Null → ⊥) → (answer s ≡ Err (refused_with v (fail.InvalidType (kind_of v.tree)))) × (logs s ≡ [])
    alone_other h j = let i = other_value v.tree j in (whole.0 ∙ rw (name, h, i) refl, whole.1 ∙ rw (name, h, i) refl)

  -- the key is no text
  pub key_other : (s k v : Seen) → Some ((k, v) ∷ []) ≡ entries_seen s → text_at k.tree ≡ None → (answer s ≡ Err (refused_with k (fail.InvalidType (kind_of k.tree)))) × (logs s ≡ [])
  key_other s k v e h = by k.tree refl h
    where
      whole : IsEntry s k v
      whole = one_entry s k v e

      by : (t : Tree) → k.tree ≡ t → text_at t ≡ None → (answer s ≡ Err (refused_with k (fail.InvalidType (kind_of k.tree)))) × (logs s ≡ [])
      by (node.text b) i g = absurd (cc)
      by node.null i g = (whole.0 ∙ rw i refl, whole.1 ∙ rw i refl)
      by (node.truth b) i g = (whole.0 ∙ rw i refl, whole.1 ∙ rw i refl)
      by (node.int z) i g = (whole.0 ∙ rw i refl, whole.1 ∙ rw i refl)
      by (node.bytes b) i g = (whole.0 ∙ rw i refl, whole.1 ∙ rw i refl)
      by (node.list ts) i g = (whole.0 ∙ rw i refl, whole.1 ∙ rw i refl)
      by (node.map es) i g = (whole.0 ∙ rw i refl, whole.1 ∙ rw i refl)

-- ---- the same, whatever reads the values

text_there : (t : Tree) (b : List ℕ) → Some b ≡ text_at t → t ≡ node.text b
text_there (node.text s) b e = let q : b ≡ s = cc in ap node.text (sym q)
text_there node.null b e = absurd (cc)
text_there (node.truth c) b e = absurd (cc)
text_there (node.int z) b e = absurd (cc)
text_there (node.bytes s) b e = absurd (cc)
text_there (node.list ts) b e = absurd (cc)
text_there (node.map es) b e = absurd (cc)

pub is_first : (n : Names) (s k v : Seen) (b : List ℕ) → Some ((k, v) ∷ []) ≡ entries_seen s → Some b ≡ text_at k.tree → variant_of n b ≡ First → IsCase n s (λ x y. x) 0 v
is_first n s k v b e name h = let t = text_there k.tree b name in record { reads = λ x y m. (first_answer n x y m s k v b e t h).0; logs = λ x y m. (first_answer n x y m s k v b e t h).1 }

pub is_second : (n : Names) (s k v : Seen) (b : List ℕ) → Some ((k, v) ∷ []) ≡ entries_seen s → Some b ≡ text_at k.tree → variant_of n b ≡ Second → IsCase n s (λ x y. y) 1 v
is_second n s k v b e name h = let t = text_there k.tree b name in record { reads = λ x y m. (second_answer n x y m s k v b e t h).0; logs = λ x y m. (second_answer n x y m s k v b e t h).1 }

-- ---- the one entry

pub only_one : (s : Seen) (k : ℕ) (xs rest : List (Seen × Seen)) (e : Seen × Seen) → Some xs ≡ entries_seen s → xs ≡ e ∷ rest → ((row : List (Seen × Seen)) → entries_seen s ≡ Some row → length row ≡ k) → k ≡ 1 → Some (e ∷ []) ≡ entries_seen s
only_one s k xs [] e i first count one = ap Some (sym first) ∙ i
only_one s k xs (d ∷ rest) e i first count one =
    let long : length xs ≡ k = count xs (sym i) in
    let two : length xs ≡ length (e ∷ d ∷ rest) = ap (λ (l : List (Seen × Seen)). length l) first in
    absurd (omega (arith, long, two, one))

-- the entry is put in, and what was opened is closed
pub case_put : {S : Type 0} (put : Tree → S → S) (opened : Bool → S → S) (closed : S → Result S SerError) → BuildsMaps put opened closed → (name : List ℕ) (r : Result Tree SerError) (old s now new : S)
    (x : Result (Unit {0}) SerFail) → ◌≡◌ {A = Result S SerError} (Ok (opened true old)) (Ok s) → IsFieldPut put name (Ok tt) r s now → IsBuilt x (closed now) new → IsPut put x (case_writes name r) old new
case_put {S} put opened closed maps name r old s now new x i h k =
    let same : opened true old ≡ s = cc in
    let t : Tree = h.0 in
    let filled : now ≡ puts put (by_turns ((node.text name, t) ∷ [])) (opened true old) = h.2 ∙ ap (λ (z : S). put t (put (node.text name) z)) (sym same) in
    rw h.1 (subst (λ (q : Result S SerError). IsBuilt x q new) (ap closed filled ∙ maps old ((node.text name, t) ∷ [])) k)
