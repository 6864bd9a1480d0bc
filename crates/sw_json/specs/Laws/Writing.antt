-- To open a list, put its parts in and close it is to put the list in, and so it is with a map. What was put into a fresh writer is its text.
use Rattle.std.specs.Prelude.{nat_le, codes}
use Rattle.std.proofs.Common.{◌≡◌, ℕ, List, Option, Some, None, refl, append_assoc, [], ap, ◌∙◌, Bool, cond, Result, Ok, Err, true, false, suc, ◌∷◌, max, arith, sym}
use Rattle.std.proofs.lemmas.List.{append-nil}
use Rattle.sw_tree.specs.Tree.{Tree, depth, trees, trees_depth, list, entries, by_turns, entries_depth, map}
use Rattle.sw_tree.specs.Building.{with_put, within, puts}
use Rattle.sw_tree.specs.declared.fail.SerError.{SerError}
use Rattle.sw_tree.specs.declared.fail.SerError.TheVariants as reason
use Rattle.sw_json.specs.Text.{json_text}
use Rattle.sw_json.specs.declared.level.Level.{Level}
use Rattle.sw_json.specs.declared.turn.Turn.{Turn}
use Rattle.sw_json.specs.declared.turn.Turn.TheVariants.{Item, Root, First, FirstKey, Key, Value}
use Rattle.sw_json.specs.Inner.Pushed.{joined}
use Rattle.sw_json.specs.Inner.Text.{key_text}
use Rattle.sw_json.specs.Inner.Turns.{separator, piece, ending, opening}
use Rattle.sw_json.specs.Inner.Written.{Written, put, closed, opened}
use Rattle.sw_json.specs.Laws.Texts.{more_text, list_text, behind_text, map_text}
use Rattle.sw_json.specs.Laws.Pushed.{more_items_text, entry_text, more_entries_text}

-- ---- texts one behind another
joined-assoc : (a b c : Option (List ℕ)) → joined (joined a b) c ≡ joined a (joined b c)
joined-assoc None b c = refl
joined-assoc (Some a) None c = refl
joined-assoc (Some a) (Some b) None = refl
joined-assoc (Some a) (Some b) (Some c) = rw append_assoc refl

joined-nil : (a : Option (List ℕ)) → joined a (Some []) ≡ a
joined-nil None = refl
joined-nil (Some a) = ap Some (append-nil a)

pub nil-joined : (a : Option (List ℕ)) → joined (Some []) a ≡ a
nil-joined None = refl
nil-joined (Some a) = refl

regroup : (x a b r : Option (List ℕ)) → joined (joined x (joined a b)) r ≡ joined x (joined a (joined b r))
regroup x a b r = joined-assoc x (joined a b) r ∙ ap (joined x) (joined-assoc a b r)

-- a first part, further ones and the end, put in one after another
from_first : (x a o j r e m : Option (List ℕ)) → joined r e ≡ m → joined (joined (joined (joined x (joined a o)) (joined (Some []) j)) r) e ≡ joined x (joined a (joined o (joined j m)))
from_first x a o j r e m k =
    let y : Option (List ℕ) = joined x (joined a o) in
    joined-assoc (joined y (joined (Some []) j)) r e
    ∙ ap (joined (joined y (joined (Some []) j))) k
    ∙ ap (λ z. joined (joined y z) m) (nil-joined j)
    ∙ joined-assoc y j m
    ∙ regroup x a o (joined j m)

-- ---- closing
abbrev at : Option (List ℕ) → Turn → ℕ → List Level → Written
at x t h o = record { text = x; top = record { turn = t; height = h }; outer = o }

abbrev where_room : {A : Type 0} → Bool → A → Result A SerError
where_room b x = cond b (Ok x) (Err reason.TooDeep)

by_room : (b : Bool) (t : Tree) (w : Written) → where_room b (put t w) ≡ with_put put (where_room b t) w
by_room true t w = refl
by_room false t w = refl

closed_with : (w : Written) (x : Option (List ℕ)) (turn : Turn) (h : ℕ) (t : Tree) → suc h ≡ depth t
    → joined x (Some (ending turn)) ≡ joined w.text (joined (Some (separator w.top.turn)) (piece w.top.turn t))
    → closed (at x turn h (w.top ∷ w.outer)) ≡ with_put put (within t) w
closed_with w x turn h t e k = rw (e, k) (by_room (nat_le (depth t) 128) t w)

-- ---- lists
-- further items
abbrev rest_items : List Tree → Option (List ℕ)
rest_items [] = Some []
rest_items (t ∷ ts) = joined (Some (codes ",")) (joined (json_text t) (rest_items ts))

puts-items : (ts : List Tree) (x : Option (List ℕ)) (h : ℕ) (o : List Level) → puts put ts (at x Item h o) ≡ at (joined x (rest_items ts)) Item (max h (trees_depth (trees ts))) o
puts-items [] x h o =
    let e : max h 0 ≡ h = omega arith in
    rw (joined-nil x, e) refl
puts-items (t ∷ ts) x h o =
    let e : max (max h (depth t)) (trees_depth (trees ts)) ≡ max h (max (depth t) (trees_depth (trees ts))) = omega arith in
    puts-items ts (joined x (joined (Some (codes ",")) (json_text t))) (max h (depth t)) o
    ∙ ap (λ y. at y Item (max (max h (depth t)) (trees_depth (trees ts))) o) (regroup x (Some (codes ",")) (json_text t) (rest_items ts))
    ∙ ap (λ n. at (joined x (rest_items (t ∷ ts))) Item n o) e

rest_items-ended : (ts : List Tree) → joined (rest_items ts) (Some (codes "]")) ≡ more_items_text ts
rest_items-ended [] = refl
rest_items-ended (t ∷ ts) =
    regroup (Some (codes ",")) (json_text t) (rest_items ts) (Some (codes "]"))
    ∙ ap (λ r. joined (Some (codes ",")) (joined (json_text t) r)) (rest_items-ended ts)
    ∙ sym (more_text t ts)

list_shape : (turn : Turn) (t : Tree) (ts : List Tree) → joined (opening turn false) (joined (json_text t) (more_items_text ts)) ≡ piece turn (list (trees (t ∷ ts)))
list_shape Root t ts = sym (list_text t ts)
list_shape First t ts = sym (list_text t ts)
list_shape Item t ts = sym (list_text t ts)
list_shape FirstKey t ts = refl
list_shape Key t ts = refl
list_shape Value t ts = sym (list_text t ts)

empty_list : (turn : Turn) → joined (opening turn false) (Some (codes "]")) ≡ piece turn (list (trees []))
empty_list Root = refl
empty_list First = refl
empty_list Item = refl
empty_list FirstKey = refl
empty_list Key = refl
empty_list Value = refl

pub lists : (w : Written) (ts : List Tree) → closed (puts put ts (opened false w)) ≡ with_put put (within (list (trees ts))) w
lists w [] =
    let a = Some (separator w.top.turn) in
    let o = opening w.top.turn false in
    closed_with w (joined w.text (joined a o)) First 0 (list (trees [])) refl
    (regroup w.text a o (Some (codes "]")) ∙ ap (λ r. joined w.text (joined a r)) (empty_list w.top.turn))
lists w (t ∷ ts) =
    let a = Some (separator w.top.turn) in
    let o = opening w.top.turn false in
    let x = joined (joined w.text (joined a o)) (joined (Some []) (json_text t)) in
    let h = max (max 0 (depth t)) (trees_depth (trees ts)) in
    let e : suc h ≡ depth (list (trees (t ∷ ts))) = omega arith in
    ap closed (puts-items ts x (max 0 (depth t)) (w.top ∷ w.outer))
    ∙ closed_with w (joined x (rest_items ts)) Item h (list (trees (t ∷ ts))) e
    (from_first w.text a o (json_text t) (rest_items ts) (Some (codes "]")) (more_items_text ts) (rest_items-ended ts) ∙ ap (λ r. joined w.text (joined a r)) (list_shape w.top.turn t ts))

-- ---- maps
-- further entries
abbrev rest_entries : List (Tree × Tree) → Option (List ℕ)
rest_entries [] = Some []
rest_entries (e ∷ es) = joined (Some (codes ",")) (joined (entry_text e.0 e.1) (rest_entries es))

puts-entries : (es : List (Tree × Tree)) (x : Option (List ℕ)) (h : ℕ) (o : List Level) → puts put (by_turns es) (at x Key h o) ≡ at (joined x (rest_entries es)) Key (max h (entries_depth (entries es))) o
puts-entries [] x h o =
    let e : max h 0 ≡ h = omega arith in
    rw (joined-nil x, e) refl
puts-entries (p ∷ es) x h o =
    let n = max (max h (depth p.0)) (depth p.1) in
    let e : max n (entries_depth (entries es)) ≡ max h (entries_depth (entries (p ∷ es))) = omega arith in
    ap (λ y. puts put (by_turns es) (at y Key n o)) (regroup x (Some (codes ",")) (key_text p.0) (joined (Some (codes ":")) (json_text p.1)))
    ∙ puts-entries es (joined x (joined (Some (codes ",")) (entry_text p.0 p.1))) n o
    ∙ ap (λ y. at y Key (max n (entries_depth (entries es))) o) (regroup x (Some (codes ",")) (entry_text p.0 p.1) (rest_entries es))
    ∙ ap (λ k. at (joined x (rest_entries (p ∷ es))) Key k o) e

rest_entries-ended : (es : List (Tree × Tree)) → joined (rest_entries es) (Some (codes "}")) ≡ more_entries_text es
rest_entries-ended [] = refl
rest_entries-ended (p ∷ es) =
    regroup (Some (codes ",")) (entry_text p.0 p.1) (rest_entries es) (Some (codes "}"))
    ∙ ap (λ r. joined (Some (codes ",")) (joined (entry_text p.0 p.1) r)) (rest_entries-ended es)
    ∙ sym (behind_text p es)

map_shape : (turn : Turn) (p : Tree × Tree) (es : List (Tree × Tree)) → joined (opening turn true) (joined (entry_text p.0 p.1) (more_entries_text es)) ≡ piece turn (map (entries (p ∷ es)))
map_shape Root p es = sym (map_text p es)
map_shape First p es = sym (map_text p es)
map_shape Item p es = sym (map_text p es)
map_shape FirstKey p es = refl
map_shape Key p es = refl
map_shape Value p es = sym (map_text p es)

empty_map : (turn : Turn) → joined (opening turn true) (Some (codes "}")) ≡ piece turn (map (entries []))
empty_map Root = refl
empty_map First = refl
empty_map Item = refl
empty_map FirstKey = refl
empty_map Key = refl
empty_map Value = refl

pub maps : (w : Written) (es : List (Tree × Tree)) → closed (puts put (by_turns es) (opened true w)) ≡ with_put put (within (map (entries es))) w
maps w [] =
    let a = Some (separator w.top.turn) in
    let o = opening w.top.turn true in
    closed_with w (joined w.text (joined a o)) FirstKey 0 (map (entries [])) refl
    (regroup w.text a o (Some (codes "}")) ∙ ap (λ r. joined w.text (joined a r)) (empty_map w.top.turn))
maps w (p ∷ es) =
    let a = Some (separator w.top.turn) in
    let o = opening w.top.turn true in
    let y = joined w.text (joined a o) in
    let x = joined y (joined (Some []) (entry_text p.0 p.1)) in
    let n = max (max 0 (depth p.0)) (depth p.1) in
    let h = max n (entries_depth (entries es)) in
    let e : suc h ≡ depth (map (entries (p ∷ es))) = omega arith in
    ap (λ z. closed (puts put (by_turns es) (at z Key n (w.top ∷ w.outer)))) (regroup y (Some []) (key_text p.0) (joined (Some (codes ":")) (json_text p.1)))
    ∙ ap closed (puts-entries es x n (w.top ∷ w.outer))
    ∙ closed_with w (joined x (rest_entries es)) Key h (map (entries (p ∷ es))) e
    (from_first w.text a o (entry_text p.0 p.1) (rest_entries es) (Some (codes "}")) (more_entries_text es) (rest_entries-ended es) ∙ ap (λ r. joined w.text (joined a r)) (map_shape w.top.turn p es))
