-- A node by its children, and their levels.
use Rattle.std.proofs.Common.{◌≡◌, ℕ, ℤ, zero, suc, ◌<◌, ◌≤◌, max, Bool, List, [], ◌∷◌, length, get_or, refl, ap, sym, ◌∙◌, arith, Some, None}
use Rattle.sw_tree.specs.Tree.{Tree, null, truth, int, text, bytes, list, map, trees, entries, items, pairs, items_at, pairs_at, text_at, bytes_at, int_at, truth_at, depth, trees_depth, entries_depth}
use Rattle.sw_tree.proofs.Tree.{trees-items, entries-pairs}

pub item_depth : (ts : List Tree) (k : ℕ) (d t : Tree) → k < length ts → t ≡ get_or ts k d → depth t ≤ trees_depth (trees ts)
item_depth [] k d t h e = absurd (omega arith)
item_depth (u ∷ ts) zero d t h e = omega (arith, ap depth e)
item_depth (u ∷ ts) (suc k) d t h e = omega (arith, item_depth ts k d t (omega arith) e)

pub entry_depth : (es : List (Tree × Tree)) (k : ℕ) (d e : Tree × Tree) → k < length es → e ≡ get_or es k d → max (depth e.0) (depth e.1) ≤ entries_depth (entries es)
entry_depth [] k d e h is = absurd (omega arith)
entry_depth (f ∷ es) zero d e h is = omega (arith, ap (λ (x : Tree × Tree). depth x.0) is, ap (λ (x : Tree × Tree). depth x.1) is)
entry_depth (f ∷ es) (suc k) d e h is = omega (arith, entry_depth es k d e (omega arith) is)

pub list_is : (t : Tree) (ts : List Tree) → Some ts ≡ items_at t → t ≡ list (trees ts)
list_is null ts h = cc
list_is (truth b) ts h = cc
list_is (int n) ts h = cc
list_is (text s) ts h = cc
list_is (bytes s) ts h = cc
list_is (list us) ts h = let e : ts ≡ items us = cc in ap list (sym (ap trees e ∙ trees-items us))
list_is (map es) ts h = cc

pub map_is : (t : Tree) (es : List (Tree × Tree)) → Some es ≡ pairs_at t → t ≡ map (entries es)
map_is null es h = cc
map_is (truth b) es h = cc
map_is (int n) es h = cc
map_is (text s) es h = cc
map_is (bytes s) es h = cc
map_is (list ts) es h = cc
map_is (map fs) es h = let e : es ≡ pairs fs = cc in ap map (sym (ap entries e ∙ entries-pairs fs))

pub text_is : (t : Tree) (s : List ℕ) → Some s ≡ text_at t → t ≡ text s
text_is null s h = cc
text_is (truth b) s h = cc
text_is (int n) s h = cc
text_is (text r) s h = cc
text_is (bytes r) s h = cc
text_is (list us) s h = cc
text_is (map es) s h = cc

pub bytes_is : (t : Tree) (s : List ℕ) → Some s ≡ bytes_at t → t ≡ bytes s
bytes_is null s h = cc
bytes_is (truth b) s h = cc
bytes_is (int n) s h = cc
bytes_is (text r) s h = cc
bytes_is (bytes r) s h = cc
bytes_is (list us) s h = cc
bytes_is (map es) s h = cc

pub int_is : (t : Tree) (z : ℤ) → Some z ≡ int_at t → t ≡ int z
int_is null z h = cc
int_is (truth b) z h = cc
int_is (int n) z h = cc
int_is (text s) z h = cc
int_is (bytes s) z h = cc
int_is (list us) z h = cc
int_is (map es) z h = cc

pub truth_is : (t : Tree) (b : Bool) → Some b ≡ truth_at t → t ≡ truth b
truth_is null b h = cc
truth_is (truth c) b h = cc
truth_is (int n) b h = cc
truth_is (text s) b h = cc
truth_is (bytes s) b h = cc
truth_is (list us) b h = cc
truth_is (map es) b h = cc

pub null_is : (t : Tree) → items_at t ≡ None → pairs_at t ≡ None → None ≡ text_at t → None ≡ bytes_at t → None ≡ int_at t → None ≡ truth_at t → t ≡ null
null_is null a b c d e f = refl
null_is (truth v) a b c d e f = cc
null_is (int n) a b c d e f = cc
null_is (text s) a b c d e f = cc
null_is (bytes s) a b c d e f = cc
null_is (list ts) a b c d e f = cc
null_is (map es) a b c d e f = cc

pub ruleset leaves = (list_is, map_is, text_is, bytes_is, int_is, truth_is, null_is)
