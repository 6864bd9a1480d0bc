-- What the items and entries of a view show.
use Rattle.std.proofs.Common.{◌≡◌, ℕ, ◌≤◌, Bool, List, [], ◌∷◌, Some, refl, ap, sym, ◌∙◌}
use Rattle.sw_tree.specs.Tree.{Tree, null, truth, int, text, bytes, list, map, trees, items, entries, pairs, depth}
use Rattle.sw_tree.proofs.Tree.{trees-items, entries-pairs}
use Rattle.sw_tree.specs.Seen.{Seen, row, entry_row, behind, place_at, items_seen, entries_seen}
use Rattle.sw_tree.specs.Inner.Seen.{trees_of, pairs_of}
use Rattle.sw_tree.specs.declared.view.View.{View}
use Rattle.sw_tree.specs.declared.cell.Cell.TheVariants.{Null}
use Rattle.sw_tree.specs.Inner.Cells.{forest, first}
use Rattle.sw_tree.specs.Inner.View.{seen, tree_of, store_of}
use Rattle.sw_tree.proofs.CellLemmas.{is_at}

trees_of-row : (c : Bool) (p : ℕ) (ts : List Tree) → trees_of (row c p ts) ≡ ts
trees_of-row c p [] = refl
trees_of-row c p (t ∷ ts) = ap (λ r. t ∷ r) (trees_of-row c (behind c p t) ts)

pairs_of-row : (c : Bool) (p : ℕ) (es : List (Tree × Tree)) → pairs_of (entry_row c p es) ≡ es
pairs_of-row c p [] = refl
pairs_of-row c p (e ∷ es) = ap (λ r. e ∷ r) (pairs_of-row c (behind c (behind c p e.0) e.1) es)

list_at : (t : Tree) (p : ℕ) (c : Bool) (xs : List Seen) → Some xs ≡ items_seen (record { tree = t; place = p; counts = c }) → t ≡ list (trees (trees_of xs))
list_at null p c xs h = cc
list_at (truth b) p c xs h = cc
list_at (int n) p c xs h = cc
list_at (text s) p c xs h = cc
list_at (bytes s) p c xs h = cc
list_at (list ts) p c xs h = let e : xs ≡ row c (place_at (record { tree = list ts; place = p; counts = c }) 1) (items ts) = cc in sym (ap (λ ss. list (trees (trees_of ss))) e ∙ ap (λ us. list (trees us)) (trees_of-row c (place_at (record { tree = list ts; place = p; counts = c }) 1) (items ts)) ∙ ap list (trees-items ts))
list_at (map es) p c xs h = cc

-- the tree of a view that has items
pub list_seen : (s : Seen) (xs : List Seen) → Some xs ≡ items_seen s → s.tree ≡ list (trees (trees_of xs))
list_seen s xs h = list_at s.tree s.place s.counts xs h

map_at : (t : Tree) (p : ℕ) (c : Bool) (xs : List (Seen × Seen)) → Some xs ≡ entries_seen (record { tree = t; place = p; counts = c }) → t ≡ map (entries (pairs_of xs))
map_at null p c xs h = cc
map_at (truth b) p c xs h = cc
map_at (int n) p c xs h = cc
map_at (text s) p c xs h = cc
map_at (bytes s) p c xs h = cc
map_at (list ts) p c xs h = cc
map_at (map es) p c xs h = let e : xs ≡ entry_row c (place_at (record { tree = map es; place = p; counts = c }) 1) (pairs es) = cc in sym (ap (λ ss. map (entries (pairs_of ss))) e ∙ ap (λ us. map (entries us)) (pairs_of-row c (place_at (record { tree = map es; place = p; counts = c }) 1) (pairs es)) ∙ ap map (entries-pairs es))

pub map_seen : (s : Seen) (xs : List (Seen × Seen)) → Some xs ≡ entries_seen s → s.tree ≡ map (entries (pairs_of xs))
map_seen s xs h = map_at s.tree s.place s.counts xs h

-- a document has at most 128 levels
pub shallow_view : (v : View) → depth (tree_of v) ≤ 128
unfolding seen forest
shallow_view v =
    let here = is_at (store_of v) v.sheet.now.cells.items v.at Null v.inside v.formed in
    let tree_is = ap (λ cs. first (forest (store_of v) cs)) here.means in
    rw tree_is here.fits.shallow
