-- To open a list, put its parts in and close it is to put the list in, and so it is with a map.
use Rattle.std.proofs.Common.{◌≡◌, ℕ, List, [], ◌∷◌, ◌++◌, ◌+◌, ◌*◌, ◌/◌, refl, ap, sym, ◌∙◌, append_assoc, Bool, true, false, cond, Result, Ok, Err, suc, max, length, arith}
use Rattle.std.proofs.lemmas.List.{append-nil}
use Rattle.std.specs.Prelude.{nat_le}
use Rattle.sw_tree.specs.Tree.{Tree, list, map, depth, trees, items, trees_depth, entries, pairs, by_turns, entries_depth}
use Rattle.sw_tree.specs.Building.{with_put, within, puts, BuildsLists, BuildsMaps}
use Rattle.sw_tree.specs.Laws.Tree.{items-trees, pairs-entries}
use Rattle.sw_tree.specs.declared.fail.SerError.{SerError}
use Rattle.sw_tree.specs.declared.fail.SerError.TheVariants as reason
use Rattle.sw_compact.specs.Lengths.{length_bytes}
use Rattle.sw_compact.specs.Spelling.{spelling, items_spelling, entries_spelling}
use Rattle.sw_compact.specs.Laws.Spelled.{spelling-rest}
use Rattle.sw_compact.specs.Inner.Written.{Frame, Written, put, closed, opened, spelled}
use Rattle.sw_compact.specs.declared.version.Version.{Version}

-- ---- closing
abbrev at : Version → Bool → ℕ → ℕ → List ℕ → List Frame → Written
at v m n h b o = record { version = v; top = record { is_map = m; parts = n; height = h; bytes = b }; outer = o }

abbrev where_room : {A : Type 0} → Bool → A → Result A SerError
where_room b x = cond b (Ok x) (Err reason.TooDeep)

by_room : (b : Bool) (t : Tree) (w : Written) → where_room b (put t w) ≡ with_put put (where_room b t) w
by_room true t w = refl
by_room false t w = refl

closed_with : (w : Written) (m : Bool) (n h : ℕ) (b : List ℕ) (t : Tree) → suc h ≡ depth t
    → spelled w.version (record { is_map = m; parts = n; height = h; bytes = b }) ≡ spelling w.version t []
    → closed (at w.version m n h b (w.top ∷ w.outer)) ≡ with_put put (within t) w
closed_with w m n h b t e k = rw (e, k) (by_room (nat_le (depth t) 128) t w)

-- ---- lists
puts-items : (v : Version) (m : Bool) (ts : List Tree) (n h : ℕ) (b : List ℕ) (o : List Frame) → puts put ts (at v m n h b o) ≡ at v m (n + length ts) (max h (trees_depth (trees ts))) (b ++ items_spelling v (trees ts) []) o
puts-items v m [] n h b o =
    let e : max h 0 ≡ h = omega arith in
    let k : n + 0 ≡ n = omega arith in
    rw (append-nil b, e, k) refl
puts-items v m (t ∷ ts) n h b o =
    let e : max (max h (depth t)) (trees_depth (trees ts)) ≡ max h (trees_depth (trees (t ∷ ts))) = omega arith in
    let k : n + 1 + length ts ≡ n + length (t ∷ ts) = omega arith in
    let s : (b ++ spelling v t []) ++ items_spelling v (trees ts) [] ≡ b ++ items_spelling v (trees (t ∷ ts)) []
    = append_assoc b (spelling v t []) (items_spelling v (trees ts) []) ∙ ap (λ x. b ++ x) (sym (spelling-rest v t (items_spelling v (trees ts) []))) in
    puts-items v m ts (n + 1) (max h (depth t)) (b ++ spelling v t []) o
    ∙ ap (λ x. at v m x (max (max h (depth t)) (trees_depth (trees ts))) ((b ++ spelling v t []) ++ items_spelling v (trees ts) []) o) k
    ∙ ap (λ x. at v m (n + length (t ∷ ts)) x ((b ++ spelling v t []) ++ items_spelling v (trees ts) []) o) e
    ∙ ap (λ x. at v m (n + length (t ∷ ts)) (max h (trees_depth (trees (t ∷ ts)))) x o) s

pub lists : BuildsLists put opened closed
lists w ts =
    let e : suc (max 0 (trees_depth (trees ts))) ≡ depth (list (trees ts)) = omega arith in
    let k : 0 + length ts ≡ length (items (trees ts)) = rw items-trees (omega arith) in
    ap closed (puts-items w.version false ts 0 0 [] (w.top ∷ w.outer))
    ∙ closed_with w false (0 + length ts) (max 0 (trees_depth (trees ts))) (items_spelling w.version (trees ts) []) (list (trees ts)) e
    (ap (λ x. 7 ∷ length_bytes w.version x ++ items_spelling w.version (trees ts) []) k)

-- ---- maps
-- keys and values by turns spell as their entries do
turns-spelling : (v : Version) (es : List (Tree × Tree)) → items_spelling v (trees (by_turns es)) [] ≡ entries_spelling v (entries es) []
turns-spelling v [] = refl
turns-spelling v (e ∷ es) = ap (λ x. spelling v e.0 (spelling v e.1 x)) (turns-spelling v es)

turns-depth : (es : List (Tree × Tree)) → trees_depth (trees (by_turns es)) ≡ entries_depth (entries es)
turns-depth [] = refl
turns-depth (e ∷ es) = omega (arith, turns-depth es)

half_of_turns : (es : List (Tree × Tree)) → length (by_turns es) ≡ 2 * length es
half_of_turns [] = refl
half_of_turns (e ∷ es) = omega (arith, half_of_turns es)

pub maps : BuildsMaps put opened closed
maps w es =
    let ts = by_turns es in
    let e : suc (max 0 (trees_depth (trees ts))) ≡ depth (map (entries es)) = omega (arith, turns-depth es) in
    let k : (0 + length ts) / 2 ≡ length (pairs (entries es)) = rw pairs-entries (omega (arith, half_of_turns es)) in
    ap closed (puts-items w.version true ts 0 0 [] (w.top ∷ w.outer))
    ∙ closed_with w true (0 + length ts) (max 0 (trees_depth (trees ts))) (items_spelling w.version (trees ts) []) (map (entries es)) e
    (ap (λ x. 8 ∷ length_bytes w.version x ++ items_spelling w.version (trees ts) []) k
    ∙ ap (λ x. 8 ∷ length_bytes w.version (length (pairs (entries es))) ++ x) (turns-spelling w.version es))
