-- Steps to children.
use Rattle.std.proofs.Common.{ℕ, zero, suc, ◌+◌, ◌≤◌, ◌<◌, ◌≡◌, Bool, true, false, List, [], ◌∷◌, ◌++◌, length, drop, Option, Some, None, refl, ap, sym, ◌∙◌, arith, add-one}
use Rattle.std.specs.Prelude.{slice_get}
use Rattle.std.specs.Option.{option_and_then}
use Rattle.sw_tree.specs.Tree.{Tree, Trees, Entries, null, truth, int, text, bytes, list, map, no_trees, tree, no_entries, entry, items, pairs, size, trees_size, entries_size, len_of}
use Rattle.sw_tree.specs.Seen.{Seen, row, entry_row, behind, place_at, items_seen, entries_seen}
use Rattle.sw_tree.specs.Path.{child, node_seen, HasPlace}
use Rattle.sw_tree.specs.Inner.Path.{Holds, HoldsPair}
use Rattle.sw_tree.specs.declared.path.Step.{Step}

-- the items of a tree, from that place on
pub row_holds : (low p place : ℕ) (ts : Trees) → low < p → p ≤ place → place < p + trees_size ts → Holds low place (row true p (items ts))
row_holds low p place no_trees lt from before = absurd (omega (arith, from, before))
row_holds low p place (tree t ts) lt from before = record { counts = refl; behind = lt; from = from; later = λ over. row_holds low (p + size t) place ts (omega (arith, lt)) over (omega (arith, before)) }

pub entries_hold : (low p place : ℕ) (es : Entries) → low < p → p ≤ place → place < p + entries_size es → HoldsPair low place (entry_row true p (pairs es))
entries_hold low p place no_entries lt from before = absurd (omega (arith, from, before))
entries_hold low p place (entry k v es) lt from before =
    record {
      counts = refl;
      behind = lt;
      from = from;
      later = λ over. record { counts = refl; behind = omega (arith, lt); from = over; later = λ further. entries_hold low (p + size k + size v) place es (omega (arith, lt)) further (omega (arith, before)) };
    }

pub row_length : (c : Bool) (p : ℕ) (ts : List Tree) → length (row c p ts) ≡ length ts
row_length c p [] = refl
row_length c p (t ∷ ts) = ap suc (row_length c (behind c p t) ts)

pub entry_row_length : (c : Bool) (p : ℕ) (es : List (Tree × Tree)) → length (entry_row c p es) ≡ length es
entry_row_length c p [] = refl
entry_row_length c p (e ∷ es) = ap suc (entry_row_length c (behind c (behind c p e.0) e.1) es)

pub items_length : (s : Seen) (xs : List Seen) → items_seen s ≡ Some xs → length xs ≡ len_of s.tree
items_length s xs e = items_length_of s.tree s.place s.counts xs e
  where
    items_length_of : (t : Tree) (p : ℕ) (c : Bool) (xs : List Seen) → items_seen (record { tree = t; place = p; counts = c }) ≡ Some xs → length xs ≡ len_of t
    items_length_of (list ts) p c xs e = let is : row c (place_at (record { tree = list ts; place = p; counts = c }) 1) (items ts) ≡ xs = cc in ap length (sym is) ∙ row_length c (place_at (record { tree = list ts; place = p; counts = c }) 1) (items ts)
    items_length_of _ p c xs e = absurd (cc)

pub entries_length : (s : Seen) (xs : List (Seen × Seen)) → entries_seen s ≡ Some xs → length xs ≡ len_of s.tree
entries_length s xs e = entries_length_of s.tree s.place s.counts xs e
  where
    entries_length_of : (t : Tree) (p : ℕ) (c : Bool) (xs : List (Seen × Seen)) → entries_seen (record { tree = t; place = p; counts = c }) ≡ Some xs → length xs ≡ len_of t
    entries_length_of (map es) p c xs e =
        let is : entry_row c (place_at (record { tree = map es; place = p; counts = c }) 1) (pairs es) ≡ xs = cc in
        ap length (sym is) ∙ entry_row_length c (place_at (record { tree = map es; place = p; counts = c }) 1) (pairs es)
    entries_length_of _ p c xs e = absurd (cc)

-- what is known of the items of a node over a place
pub record OfItems (s : Seen) (place : ℕ) (xs : List Seen) : Type 0 where
  pub holds : Holds s.place place xs
  pub all : length xs ≡ len_of s.tree

items_at_place : (t : Tree) (p place : ℕ) (c : Bool) (xs : List Seen) → c ≡ true → p < place → place < p + size t → Some xs ≡ items_seen (record { tree = t; place = p; counts = c }) → OfItems (record { tree = t; place = p; counts = c }) place xs
items_at_place (list ts) p place true xs count from before e =
    let is : xs ≡ row true (p + 1) (items ts) = cc in
    record { holds = rw is (row_holds p (p + 1) place ts (omega arith) (omega arith) (omega (arith, before))); all = rw is (row_length true (p + 1) (items ts)) }
items_at_place (list ts) p place false xs count from before e = absurd (cc)
items_at_place null p place c xs count from before e = absurd (cc)
items_at_place (truth b) p place c xs count from before e = absurd (cc)
items_at_place (int n) p place c xs count from before e = absurd (cc)
items_at_place (text b) p place c xs count from before e = absurd (cc)
items_at_place (bytes b) p place c xs count from before e = absurd (cc)
items_at_place (map es) p place c xs count from before e = absurd (cc)

pub of_items : (s : Seen) (place : ℕ) (xs : List Seen) → HasPlace s place → s.place < place → Some xs ≡ items_seen s → OfItems s place xs
of_items s place xs has from e = items_at_place s.tree s.place place s.counts xs has.counts from has.before e

pub record OfEntries (s : Seen) (place : ℕ) (xs : List (Seen × Seen)) : Type 0 where
  pub holds : HoldsPair s.place place xs
  pub all : length xs ≡ len_of s.tree

entries_at_place : (t : Tree) (p place : ℕ) (c : Bool) (xs : List (Seen × Seen)) → c ≡ true → p < place → place < p + size t → Some xs ≡ entries_seen (record { tree = t; place = p; counts = c }) → OfEntries (record { tree = t; place = p; counts = c }) place xs
entries_at_place (map es) p place true xs count from before e =
    let is : xs ≡ entry_row true (p + 1) (pairs es) = cc in
    record { holds = rw is (entries_hold p (p + 1) place es (omega arith) (omega arith) (omega (arith, before))); all = rw is (entry_row_length true (p + 1) (pairs es)) }
entries_at_place (map es) p place false xs count from before e = absurd (cc)
entries_at_place null p place c xs count from before e = absurd (cc)
entries_at_place (truth b) p place c xs count from before e = absurd (cc)
entries_at_place (int n) p place c xs count from before e = absurd (cc)
entries_at_place (text b) p place c xs count from before e = absurd (cc)
entries_at_place (bytes b) p place c xs count from before e = absurd (cc)
entries_at_place (list ts) p place c xs count from before e = absurd (cc)

pub of_entries : (s : Seen) (place : ℕ) (xs : List (Seen × Seen)) → HasPlace s place → s.place < place → Some xs ≡ entries_seen s → OfEntries s place xs
of_entries s place xs has from e = entries_at_place s.tree s.place place s.counts xs has.counts from has.before e

pub get_behind : {A : Type 0} (ws : List A) (i : ℕ) (x : A) (xs : List A) → drop i ws ≡ x ∷ xs → slice_get ws i ≡ Some x
get_behind ws zero x xs e = rw e refl
get_behind [] (suc i) x xs e = absurd (cc)
get_behind (w ∷ ws) (suc i) x xs e = get_behind ws i x xs e

drop_suc : {A : Type 0} (ws : List A) (i : ℕ) (x : A) (xs : List A) → drop i ws ≡ x ∷ xs → drop (suc i) ws ≡ xs
drop_suc [] zero x xs e = absurd (cc)
drop_suc (w ∷ ws) zero x xs e = cc
drop_suc [] (suc i) x xs e = absurd (cc)
drop_suc (w ∷ ws) (suc i) x xs e = drop_suc ws i x xs e

pub drop_behind : {A : Type 0} (ws : List A) (i : ℕ) (x : A) (xs : List A) → drop i ws ≡ x ∷ xs → drop (i + 1) ws ≡ xs
drop_behind ws i x xs e = rw add-one (drop_suc ws i x xs e)

some_inj : (s t : Seen) → Some s ≡ Some t → s ≡ t
some_inj s t e = cc

onward : (f g : Seen → Option Seen) (t u : Seen) (o : Option Seen) → ((v : Seen) → f v ≡ Some t → g v ≡ Some u) → option_and_then f o ≡ Some t → option_and_then g o ≡ Some u
onward f g t u (Some v) h e = h v e
onward f g t u None h e = absurd (cc)

pub step_on : (xs : List Step) (x : Step) (s t u : Seen) → node_seen xs s ≡ Some t → child x t ≡ Some u → node_seen (xs ++ x ∷ []) s ≡ Some u
step_on [] x s t u e f = rw (some_inj s t e, f) refl
step_on (y ∷ xs) x s t u e f = onward (node_seen xs) (node_seen (xs ++ x ∷ [])) t u (child y s) (λ v h. step_on xs x v t u h f) e
