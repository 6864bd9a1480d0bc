-- The first foreign node, from the items and entries that a view shows.
use Rattle.std.proofs.Common.{◌≡◌, ℕ, Bool, true, false, List, Option, Some, None, refl, ap, sym, ◌∙◌, arith}
use Rattle.std.specs.Prelude.{option_map, is_none}
use Rattle.std.specs.Option.{option_or}
use Rattle.sw_tree.specs.Tree.{Tree, null, truth, int, text, bytes, list, map, Trees, no_trees, tree, Entries, no_entries, entry, items, pairs, bytes_at, size}
use Rattle.sw_tree.specs.Seen.{Seen, place_at, behind, row, entry_row, items_seen, entries_seen}
use Rattle.sw_tree.specs.declared.mode.Kind.TheVariants as kind
use Rattle.sw_tree.specs.declared.fail.DeError.TheVariants as fail
use Rattle.sw_tree.specs.declared.fail.Refusal.{Refusal}
use Rattle.sw_tree.specs.Foreign.{is_plain, Foreign, further, foreign_key, foreign, foreign_items, foreign_entries}
use Rattle.sw_tree.specs.Laws.Foreign.{plain_foreign}
use Rattle.sw_tree.specs.ForeignSeen.{refusal_of, foreign_seen}
use Rattle.sw_tree.specs.Inner.ForeignSeen.{foreign_each, foreign_each_entry}

abbrev at : Bool → ℕ → Tree → Seen
at c p t = record { tree = t; place = p; counts = c }

-- ---- children at their places

moved : (c : Bool) (p : ℕ) (t u : Tree) (o : Option Foreign) → option_map (refusal_of (at c (behind c p t) u)) o ≡ option_map (refusal_of (at c p u)) (further (size t) o)
moved c p t u None = refl
moved true p t u (Some f) = ap (λ (n : ℕ). Some (record { error = fail.InvalidType f.kind; place = n })) (omega arith)
moved false p t u (Some f) = refl

inward : (c : Bool) (p : ℕ) (t u : Tree) (o : Option Foreign) → option_map (refusal_of (at c (place_at (at c p t) 1) u)) o ≡ option_map (refusal_of (at c p u)) (further 1 o)
inward c p t u None = refl
inward true p t u (Some f) = ap (λ (n : ℕ). Some (record { error = fail.InvalidType f.kind; place = n })) (omega arith)
inward false p t u (Some f) = refl

mapped_or : (f : Foreign → Refusal) (a b : Option Foreign) → option_or (option_map f a) (option_map f b) ≡ option_map f (option_or a b)
mapped_or f None b = refl
mapped_or f (Some x) b = refl

foreign_each-row : (c : Bool) (p : ℕ) (u : Tree) (ts : Trees) → foreign_each (row c p (items ts)) ≡ option_map (refusal_of (at c p u)) (foreign_items ts)
foreign_each-row c p u no_trees = refl
foreign_each-row c p u (tree t ts) =
    ap (option_or (option_map (refusal_of (at c p u)) (foreign t))) (foreign_each-row c (behind c p t) u ts ∙ moved c p t u (foreign_items ts))
    ∙ mapped_or (refusal_of (at c p u)) (foreign t) (further (size t) (foreign_items ts))

foreign_each-entry_row : (c : Bool) (p : ℕ) (u : Tree) (es : Entries) → foreign_each_entry (entry_row c p (pairs es)) ≡ option_map (refusal_of (at c p u)) (foreign_entries es)
foreign_each-entry_row c p u no_entries = refl
foreign_each-entry_row c p u (entry k v es) =
    let q = behind c p k in
    let rest = further (size v) (foreign_entries es) in
    let later : option_or (option_map (refusal_of (at c q u)) (foreign v)) (foreign_each_entry (entry_row c (behind c q v) (pairs es))) ≡ option_map (refusal_of (at c p u)) (further (size k) (option_or (foreign v) rest)) =
    ap (option_or (option_map (refusal_of (at c q u)) (foreign v))) (foreign_each-entry_row c (behind c q v) u es ∙ moved c q v u (foreign_entries es))
    ∙ mapped_or (refusal_of (at c q u)) (foreign v) rest
    ∙ moved c p k u (option_or (foreign v) rest) in
    ap (option_or (option_map (refusal_of (at c p u)) (foreign_key k))) later
    ∙ mapped_or (refusal_of (at c p u)) (foreign_key k) (further (size k) (option_or (foreign v) rest))

listed : (t : Tree) (p : ℕ) (c : Bool) (xs : List Seen) → Some xs ≡ items_seen (at c p t) → foreign_seen (at c p t) ≡ foreign_each xs
listed null p c xs h = absurd (cc)
listed (truth b) p c xs h = absurd (cc)
listed (int n) p c xs h = absurd (cc)
listed (text s) p c xs h = absurd (cc)
listed (bytes s) p c xs h = absurd (cc)
listed (list ts) p c xs h =
    let e : xs ≡ row c (place_at (at c p (list ts)) 1) (items ts) = cc in
    sym (ap foreign_each e ∙ foreign_each-row c (place_at (at c p (list ts)) 1) (list ts) ts ∙ inward c p (list ts) (list ts) (foreign_items ts))
listed (map es) p c xs h = absurd (cc)

pub foreign_seen-list : (s : Seen) (xs : List Seen) → Some xs ≡ items_seen s → foreign_seen s ≡ foreign_each xs
foreign_seen-list s xs h = listed s.tree s.place s.counts xs h

keyed : (t : Tree) (p : ℕ) (c : Bool) (xs : List (Seen × Seen)) → Some xs ≡ entries_seen (at c p t) → foreign_seen (at c p t) ≡ foreign_each_entry xs
keyed null p c xs h = absurd (cc)
keyed (truth b) p c xs h = absurd (cc)
keyed (int n) p c xs h = absurd (cc)
keyed (text s) p c xs h = absurd (cc)
keyed (bytes s) p c xs h = absurd (cc)
keyed (list ts) p c xs h = absurd (cc)
keyed (map es) p c xs h =
    let e : xs ≡ entry_row c (place_at (at c p (map es)) 1) (pairs es) = cc in
    sym (ap foreign_each_entry e ∙ foreign_each-entry_row c (place_at (at c p (map es)) 1) (map es) es ∙ inward c p (map es) (map es) (foreign_entries es))

pub foreign_seen-map : (s : Seen) (xs : List (Seen × Seen)) → Some xs ≡ entries_seen s → foreign_seen s ≡ foreign_each_entry xs
foreign_seen-map s xs h = keyed s.tree s.place s.counts xs h

bytes_there : (t : Tree) (p : ℕ) (c : Bool) (b : List ℕ) → Some b ≡ bytes_at t → foreign_seen (at c p t) ≡ Some (record { error = fail.InvalidType kind.Bytes; place = place_at (at c p t) 0 })
bytes_there null p c b h = absurd (cc)
bytes_there (truth x) p c b h = absurd (cc)
bytes_there (int n) p c b h = absurd (cc)
bytes_there (text s) p c b h = absurd (cc)
bytes_there (bytes s) p c b h = refl
bytes_there (list ts) p c b h = absurd (cc)
bytes_there (map es) p c b h = absurd (cc)

pub foreign_seen-bytes : (s : Seen) (b : List ℕ) → Some b ≡ bytes_at s.tree → foreign_seen s ≡ Some (record { error = fail.InvalidType kind.Bytes; place = place_at s 0 })
foreign_seen-bytes s b h = bytes_there s.tree s.place s.counts b h

leaf_there : (t : Tree) (p : ℕ) (c : Bool) → None ≡ items_seen (at c p t) → None ≡ entries_seen (at c p t) → None ≡ bytes_at t → foreign_seen (at c p t) ≡ None
leaf_there null p c f g h = refl
leaf_there (truth x) p c f g h = refl
leaf_there (int n) p c f g h = refl
leaf_there (text s) p c f g h = refl
leaf_there (bytes s) p c f g h = absurd (cc)
leaf_there (list ts) p c f g h = absurd (cc)
leaf_there (map es) p c f g h = absurd (cc)

pub foreign_seen-leaf : (s : Seen) → None ≡ items_seen s → None ≡ entries_seen s → None ≡ bytes_at s.tree → foreign_seen s ≡ None
foreign_seen-leaf s f g h = leaf_there s.tree s.place s.counts f g h

pub ruleset foreign_views = (foreign_seen-list, foreign_seen-map, foreign_seen-bytes, foreign_seen-leaf)

-- ---- plain trees

none_seen : (s : Seen) (o : Option Foreign) → is_none (option_map (refusal_of s) o) ≡ is_none o
none_seen s None = refl
none_seen s (Some f) = refl

-- a tree that shows none is plain
pub plain_seen : (s : Seen) → is_plain s.tree ≡ is_none (foreign_seen s)
plain_seen s = plain_foreign s.tree ∙ sym (none_seen s (foreign s.tree))

pub ruleset plain = (plain_seen)
