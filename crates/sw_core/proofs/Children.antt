-- A list and a map that are read child by child, each at its place.
use Rattle.std.proofs.Common.{ℕ, ◌≡◌, Bool, List, [], ◌∷◌, Some, Result, Ok, Err, Vec, Global, map, refl, ap, subst}
use Rattle.sw_tree.specs.Meaning.{Meaning, list, meanings}
use Rattle.sw_tree.specs.Meant.{list_meaning, pair_meaning}
use Rattle.sw_tree.specs.Mode.{at_key, at_value}
use Rattle.sw_tree.specs.Placed.{placed, placed_notes}
use Rattle.sw_tree.specs.Seen.{Seen, place_at, behind, row, entry_row, items_seen, entries_seen}
use Rattle.sw_tree.specs.Steps.{bind}
use Rattle.sw_tree.specs.Tree as node
use Rattle.sw_tree.specs.Tree.{Tree, items, pairs}
use Rattle.sw_tree.specs.declared.mode.Mode.{Mode}
use Rattle.sw_tree.specs.declared.fail.DeFail.{DeFail}
use Rattle.sw_tree.specs.declared.fail.DeFail.TheVariants as de
use Rattle.sw_tree.specs.declared.fail.Refusal.{Refusal}
use Rattle.sw_elem.specs.Equations.{Reads, Spots, Skips}
use Rattle.sw_elem.specs.Answers.{IsRead, IsLogged}
use Rattle.sw_core.specs.Entries.{twos, entries_plan, entries_reads, entries_spot, entries_skips}
use Rattle.sw_core.specs.Inner.Rows.{seen_reads, seen_logs, seen_turns, all_both}
use Rattle.sw_core.proofs.Places.{plan-placed, plan-logged, turns-row}
use Rattle.sw_core.specs.Rows.{Reader, reader, each_by, turns_by}
use Rattle.sw_core.specs.Vec.{list_plan, list_reads, list_spot, list_skips}

abbrev view_of : Bool → ℕ → Tree → Seen
view_of c p t = record { tree = t; place = p; counts = c }

-- what a row of children answers, and what it logs, is what the node does
abbrev IsNode : List (Reader Meaning) → List Seen → (List Meaning → List Meaning) → Reads → Spots → Skips → Mode → Seen → Type 0
IsNode rs ss make reads spot skips m s =
    (bind (seen_reads rs ss) (λ vs. Ok (list (meanings (make vs)))) ≡ placed (reads m) (spot m) s) × (seen_logs rs ss ≡ placed_notes s (skips m s.tree))

-- ---- lists

each_by-row : (r : Reader Meaning) (c : Bool) (p : ℕ) (ts : List Tree) → each_by r (row c p ts) ≡ each_by r ts
each_by-row r c p [] = refl
each_by-row r c p (t ∷ ts) = ap (λ rs. r ∷ rs) (each_by-row r c (behind c p t) ts)

module _ (r : Reads) (s : Spots) (k : Skips) (m : Mode) where
  abbrev items_by : List Seen → List (Reader Meaning)
  items_by xs = each_by (reader r s k (at_value m)) xs

  items_read : (t : Tree) (p : ℕ) (c : Bool) (xs : List Seen) → Some xs ≡ items_seen (view_of c p t) →
      IsNode (items_by xs) xs (λ vs. vs) (list_reads r s k) (list_spot r s k) (list_skips r s k) m (view_of c p t)
  items_read (node.list ts) p c xs e =
      let v = view_of c p (node.list ts) in
      let is : xs ≡ row c (place_at v 1) (items ts) = cc in
      rw (is, each_by-row (reader r s k (at_value m)) c (place_at v 1) (items ts)) (plan-placed (list_plan r s k) m v, plan-logged (list_plan r s k) m v)
  items_read node.null p c xs e = absurd (cc)
  items_read (node.truth b) p c xs e = absurd (cc)
  items_read (node.int n) p c xs e = absurd (cc)
  items_read (node.text b) p c xs e = absurd (cc)
  items_read (node.bytes b) p c xs e = absurd (cc)
  items_read (node.map es) p c xs e = absurd (cc)

values_read : {T : Type 0} (f : T → Meaning) (x : Result (Vec T Global) DeFail) (q : Result (List Meaning) Refusal) →
    IsRead (λ v. map f v.items) x q → IsRead (λ v. list_meaning f v.items) x (bind q (λ vs. Ok (list (meanings vs))))
values_read f (Ok v) q h = rw h refl
values_read f (Err (de.Refused e)) q h = rw h refl
values_read f (Err de.Memory) q h = tt

module _ (r : Reads) (s : Spots) (k : Skips) (m : Mode) (v : Seen) (xs : List Seen) (e : Some xs ≡ items_seen v) where
  pub list_read : {T : Type 0} (f : T → Meaning) (x : Result (Vec T Global) DeFail) → IsRead (λ y. map f y.items) x (seen_reads (items_by r s k m xs) xs) →
      IsRead (λ y. list_meaning f y.items) x (placed (list_reads r s k m) (list_spot r s k m) v)
  list_read f x h = subst (IsRead (λ y. list_meaning f y.items) x) ((items_read r s k m v.tree v.place v.counts xs e).0) (values_read f x _ h)

  pub list_logged : {T : Type 0} (x : Result T DeFail) (old new : List Refusal) → IsLogged x old (seen_logs (items_by r s k m xs) xs) new → IsLogged x old (placed_notes v (list_skips r s k m v.tree)) new
  list_logged x old new h = subst (λ ls. IsLogged x old ls new) ((items_read r s k m v.tree v.place v.counts xs e).1) h

-- ---- maps

turns_by-row : (r q : Reader Meaning) (c : Bool) (p : ℕ) (es : List (Tree × Tree)) → turns_by r q (entry_row c p es) ≡ turns_by r q es
turns_by-row r q c p [] = refl
turns_by-row r q c p (e ∷ es) = ap (λ rs. r ∷ q ∷ rs) (turns_by-row r q c (behind c (behind c p e.0) e.1) es)

module _ (r : Reads) (s : Spots) (k : Skips) (q : Reads) (z : Spots) (l : Skips) (m : Mode) where
  abbrev entries_by : List (Seen × Seen) → List (Reader Meaning)
  entries_by xs = turns_by (reader r s k (at_key m)) (reader q z l (at_value m)) xs

  entries_read : (t : Tree) (p : ℕ) (c : Bool) (xs : List (Seen × Seen)) → Some xs ≡ entries_seen (view_of c p t) →
      IsNode (entries_by xs) (seen_turns xs) twos (entries_reads r s k q z l) (entries_spot r s k q z l) (entries_skips r s k q z l) m (view_of c p t)
  entries_read (node.map es) p c xs e =
      let v = view_of c p (node.map es) in
      let is : xs ≡ entry_row c (place_at v 1) (pairs es) = cc in
      rw (is, turns_by-row (reader r s k (at_key m)) (reader q z l (at_value m)) c (place_at v 1) (pairs es), turns-row c (place_at v 1) (pairs es))
      (plan-placed (entries_plan r s k q z l) m v, plan-logged (entries_plan r s k q z l) m v)
  entries_read node.null p c xs e = absurd (cc)
  entries_read (node.truth b) p c xs e = absurd (cc)
  entries_read (node.int n) p c xs e = absurd (cc)
  entries_read (node.text b) p c xs e = absurd (cc)
  entries_read (node.bytes b) p c xs e = absurd (cc)
  entries_read (node.list ts) p c xs e = absurd (cc)

pub twos-all_both : {A B : Type 0} (f : A → Meaning) (g : B → Meaning) (ps : List (A × B)) → twos (all_both f g ps) ≡ map (pair_meaning f g) ps
twos-all_both f g [] = refl
twos-all_both f g (p ∷ ps) = ap (λ vs. pair_meaning f g p ∷ vs) (twos-all_both f g ps)

pairs_read : {A B : Type 0} (f : A → Meaning) (g : B → Meaning) (x : Result (Vec (A × B) Global) DeFail) (q : Result (List Meaning) Refusal) →
    IsRead (λ y. all_both f g y.items) x q → IsRead (λ y. list_meaning (pair_meaning f g) y.items) x (bind q (λ vs. Ok (list (meanings (twos vs)))))
pairs_read f g (Ok y) q h = rw h (ap (λ (vs : List Meaning). Ok (list (meanings vs))) (twos-all_both f g y.items))
pairs_read f g (Err (de.Refused e)) q h = rw h refl
pairs_read f g (Err de.Memory) q h = tt

module _ (r : Reads) (s : Spots) (k : Skips) (q : Reads) (z : Spots) (l : Skips) (m : Mode) (v : Seen) (xs : List (Seen × Seen)) (e : Some xs ≡ entries_seen v) where
  pub map_read : {A B : Type 0} (f : A → Meaning) (g : B → Meaning) (x : Result (Vec (A × B) Global) DeFail) → IsRead (λ y. all_both f g y.items) x (seen_reads (entries_by r s k q z l m xs) (seen_turns xs)) →
      IsRead (λ y. list_meaning (pair_meaning f g) y.items) x (placed (entries_reads r s k q z l m) (entries_spot r s k q z l m) v)
  map_read f g x h = subst (IsRead (λ y. list_meaning (pair_meaning f g) y.items) x) ((entries_read r s k q z l m v.tree v.place v.counts xs e).0) (pairs_read f g x _ h)

  pub map_logged : {T : Type 0} (x : Result T DeFail) (old new : List Refusal) → IsLogged x old (seen_logs (entries_by r s k q z l m xs) (seen_turns xs)) new → IsLogged x old (placed_notes v (entries_skips r s k q z l m v.tree)) new
  map_logged x old new h = subst (λ ls. IsLogged x old ls new) ((entries_read r s k q z l m v.tree v.place v.counts xs e).1) h
