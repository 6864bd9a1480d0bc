-- The items and entries of nodes and views are those of their trees, and a tree is known by what it shows.
use Rattle.std.proofs.Common.{◌≡◌, ℕ, ℤ, Bool, List, [], ◌∷◌, Option, Some, None, refl, ap, ◌∙◌}
use Rattle.std.specs.Prelude.{option_map}
use Rattle.sw_tree.specs.Tree.{Tree, Trees, no_trees, tree, Entries, no_entries, entry, trees, items, entries, pairs, items_at, pairs_at, text_at, bytes_at, int_at, truth_at}
use Rattle.sw_tree.specs.Tree as node
use Rattle.sw_tree.specs.Seen.{Seen, place_at, behind, row, entry_row, items_seen, entries_seen}
use Rattle.sw_tree.specs.Inner.Seen.{trees_of, pairs_of}
use Rattle.sw_tree.specs.Laws.Tree.{items-trees, pairs-entries}

trees-items : (ts : Trees) → trees (items ts) ≡ ts
trees-items no_trees = refl
trees-items (tree t ts) = ap (λ r. tree t r) (trees-items ts)

entries-pairs : (es : Entries) → entries (pairs es) ≡ es
entries-pairs no_entries = refl
entries-pairs (entry k v es) = ap (λ r. entry k v r) (entries-pairs es)

pub row-trees : (b : Bool) (p : ℕ) (ts : List Tree) → trees_of (row b p ts) ≡ ts
row-trees b p [] = refl
row-trees b p (t ∷ ts) = ap (λ r. t ∷ r) (row-trees b (behind b p t) ts)

pub entry_row-pairs : (b : Bool) (p : ℕ) (es : List (Tree × Tree)) → pairs_of (entry_row b p es) ≡ es
entry_row-pairs b p [] = refl
entry_row-pairs b p (e ∷ es) = ap (λ r. e ∷ r) (entry_row-pairs b (behind b (behind b p e.0) e.1) es)

mapped_items : (b : Bool) (p : ℕ) (o : Option (List Tree)) (rows : List Seen) → Some rows ≡ option_map (row b p) o → Some (trees_of rows) ≡ o
mapped_items b p None rows h = absurd (cc)
mapped_items b p (Some ts) rows h = let e : rows ≡ row b p ts = cc in ap Some (ap trees_of e ∙ row-trees b p ts)

pub shown_items : (s : Seen) (rows : List Seen) → Some rows ≡ items_seen s → Some (trees_of rows) ≡ items_at s.tree
shown_items s rows h = mapped_items s.counts (place_at s 1) (items_at s.tree) rows h

mapped_entries : (b : Bool) (p : ℕ) (o : Option (List (Tree × Tree))) (rows : List (Seen × Seen)) → Some rows ≡ option_map (entry_row b p) o → Some (pairs_of rows) ≡ o
mapped_entries b p None rows h = absurd (cc)
mapped_entries b p (Some es) rows h = let e : rows ≡ entry_row b p es = cc in ap Some (ap pairs_of e ∙ entry_row-pairs b p es)

pub shown_entries : (s : Seen) (rows : List (Seen × Seen)) → Some rows ≡ entries_seen s → Some (pairs_of rows) ≡ pairs_at s.tree
shown_entries s rows h = mapped_entries s.counts (place_at s 1) (pairs_at s.tree) rows h

pub ruleset parts = (items-trees, pairs-entries, shown_items, shown_entries)

-- ---- what a tree is, by its parts

pub list_is : (t : Tree) (ts : List Tree) → Some ts ≡ items_at t → node.list (trees ts) ≡ t
list_is (node.list us) ts h = let e : ts ≡ items us = cc in ap node.list (ap trees e ∙ trees-items us)
list_is _ ts h = absurd (cc)

pub map_is : (t : Tree) (es : List (Tree × Tree)) → Some es ≡ pairs_at t → node.map (entries es) ≡ t
map_is (node.map ds) es h = let e : es ≡ pairs ds = cc in ap node.map (ap entries e ∙ entries-pairs ds)
map_is _ es h = absurd (cc)

pub text_is : (t : Tree) (s : List ℕ) → Some s ≡ text_at t → node.text s ≡ t
text_is (node.text s) r h = cc
text_is _ s h = absurd (cc)

pub bytes_is : (t : Tree) (s : List ℕ) → Some s ≡ bytes_at t → node.bytes s ≡ t
bytes_is (node.bytes s) r h = cc
bytes_is _ s h = absurd (cc)

pub int_is : (t : Tree) (n : ℤ) → Some n ≡ int_at t → node.int n ≡ t
int_is (node.int n) m h = cc
int_is _ n h = absurd (cc)

pub truth_is : (t : Tree) (b : Bool) → Some b ≡ truth_at t → node.truth b ≡ t
truth_is (node.truth b) c h = cc
truth_is _ b h = absurd (cc)

pub null_is : (t : Tree) → None ≡ items_at t → None ≡ pairs_at t → None ≡ text_at t → None ≡ bytes_at t → None ≡ int_at t → None ≡ truth_at t → node.null ≡ t
null_is node.null a b c d e f = refl
null_is (node.truth v) a b c d e f = absurd (cc f)
null_is (node.int n) a b c d e f = absurd (cc e)
null_is (node.text s) a b c d e f = absurd (cc c)
null_is (node.bytes s) a b c d e f = absurd (cc d)
null_is (node.list ts) a b c d e f = absurd (cc a)
null_is (node.map es) a b c d e f = absurd (cc b)

pub ruleset shows = (list_is, map_is, text_is, bytes_is, int_is, truth_is, null_is)
