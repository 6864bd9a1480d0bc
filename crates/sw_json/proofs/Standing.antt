-- What the reader keeps follows the machine.
use Rattle.std.proofs.Common.{◌≡◌, ℕ, ℤ, suc, ◌+◌, ◌*◌, ◌%◌, add-zero, List, [], ◌∷◌, ◌++◌, length, length-append, Option, Some, None, Bool, true, false, cond, refl, ap, sym, ◌∙◌, arith}
use Rattle.std.specs.Prelude.{option_map, nat_lt}
use Rattle.std.specs.Option.{option_or}
use Rattle.sw_tree.specs.Laws.Options.{some_is, none_some}
use Rattle.sw_tree.specs.Tree.{Tree, trees, entries, turns, by_turns}
use Rattle.sw_tree.specs.Faults as faulted
use Rattle.sw_tree.specs.Faults.{first, number_fault, level_fault}
use Rattle.sw_tree.specs.Tree as tree
use Rattle.sw_tree.specs.Builder.{Built, Frame, added, added_to, longer, closed, CanClose}
use Rattle.sw_json.specs.Token.{Quote, Token}
use Rattle.sw_json.specs.Raw.{Raw, RawItems, no_items, item, RawEntries, no_entries, entry}
use Rattle.sw_json.specs.Raw as raw
use Rattle.sw_json.specs.Quoted.{has_escape}
use Rattle.sw_json.specs.Machine.{Level, in_list, in_map, State, value, fresh_list, fresh_map, name, colon, after, push, enter, step_value, step_fresh_list, step_fresh_map, step_name, step_colon, step_after, step, root}
use Rattle.sw_json.specs.Inner.Place.{place_value, place_step, place_end}
use Rattle.sw_json.specs.Shape.{shape_of, items_shape, entries_shape}
use Rattle.sw_json.specs.Escaped.{quote_escaped, escaped, items_escaped, entries_escaped}
use Rattle.sw_json.specs.Inner.Building.{effect, fault_of, number_fault_of}
use Rattle.sw_tree.specs.declared.fail.WireError.{WireError}
use Rattle.sw_tree.specs.declared.fail.WireError.TheVariants.{TooDeep}
use Rattle.sw_tree.specs.Number.{key_number}
use Rattle.sw_json.specs.declared.place.Place.{Place}
use Rattle.sw_json.specs.declared.place.Place.TheVariants.{Value, FreshList, FreshMap, Name, Colon, After}
use Rattle.sw_json.specs.declared.place.Open.{Open}
use Rattle.sw_json.specs.declared.place.Open.TheVariants.{List as OfList, Map as OfMap}

pub is_none : {A B : Type 0} (f : A → B) (o : Option A) → option_map f o ≡ None → o ≡ None
is_none f None h = refl
is_none f (Some y) h = cc

-- ---- the place, and what is open

abbrev pub open_of : Level → Open
open_of (in_list at rs) = OfList
open_of (in_map at es q) = OfMap

abbrev pub opens : List Level → List Open
opens [] = []
opens (l ∷ ls) = open_of l ∷ opens ls

abbrev pub shape : State → Place × List Open
shape (value ls) = (Value, opens ls)
shape (fresh_list at ls) = (FreshList, OfList ∷ opens ls)
shape (fresh_map at ls) = (FreshMap, OfMap ∷ opens ls)
shape (name at es ls) = (Name, OfMap ∷ opens ls)
shape (colon at es q ls) = (Colon, OfMap ∷ opens ls)
shape (after r ls) = (After, opens ls)

value_is : (ls : List Level) (t : Token) → option_map shape (step_value ls t) ≡ place_value (opens ls) t
value_is ls (Token.null at) = refl
value_is ls (Token.truth at b) = refl
value_is ls (Token.number at s) = refl
value_is ls (Token.text q) = refl
value_is ls (Token.open_list at) = refl
value_is ls (Token.open_map at) = refl
value_is ls t = refl

pub shape_is : (s : State) (t : Token) → option_map shape (step s t) ≡ place_step (shape s).0 (shape s).1 t
shape_is (value ls) t = value_is ls t
shape_is (fresh_list at ls) Token.close_list = refl
shape_is (fresh_list at ls) (Token.null n) = refl
shape_is (fresh_list at ls) t = refl
shape_is (fresh_map at ls) Token.close_map = refl
shape_is (fresh_map at ls) t = refl
shape_is (name at es ls) (Token.text q) = refl
shape_is (name at es ls) t = refl
shape_is (colon at es q ls) Token.colon = refl
shape_is (colon at es q ls) t = refl
shape_is (after r []) t = refl
shape_is (after r (in_list at rs ∷ ls)) Token.comma = refl
shape_is (after r (in_list at rs ∷ ls)) t = refl
shape_is (after r (in_map at es q ∷ ls)) Token.comma = refl
shape_is (after r (in_map at es q ∷ ls)) t = refl

pub no_end : (s : State) → place_end (shape s).0 (shape s).1 ≡ false → root s ≡ None
no_end (after q []) h = cc
no_end s h = refl

pub is_end : (s : State) → place_end (shape s).0 (shape s).1 ≡ true → (r : Raw) × (root s ≡ Some r)
is_end (after q []) h = (q, refl)
is_end (after q (l ∷ ls)) h = cc
is_end s h = cc

-- ---- how many are open

abbrev pub depth_of : State → ℕ
depth_of (value ls) = length ls
depth_of (fresh_list at ls) = suc (length ls)
depth_of (fresh_map at ls) = suc (length ls)
depth_of (name at es ls) = suc (length ls)
depth_of (colon at es q ls) = suc (length ls)
depth_of (after r ls) = length ls

length-opens : (ls : List Level) → length (opens ls) ≡ length ls
length-opens [] = refl
length-opens (l ∷ ls) = ap suc (length-opens ls)

pub depth_is : (s : State) → length (shape s).1 ≡ depth_of s
depth_is (value ls) = length-opens ls
depth_is (fresh_list at ls) = ap suc (length-opens ls)
depth_is (fresh_map at ls) = ap suc (length-opens ls)
depth_is (name at es ls) = ap suc (length-opens ls)
depth_is (colon at es q ls) = ap suc (length-opens ls)
depth_is (after r ls) = length-opens ls

-- ---- the nodes that are built

-- the tree of a raw tree, of items and of entries
abbrev pub whole : Raw → Tree
whole r = faulted.whole (shape_of r)

abbrev wholes : RawItems → List Tree
wholes no_items = []
wholes (item r rs) = whole r ∷ wholes rs

abbrev whole_entries : RawEntries → List (Tree × Tree)
whole_entries no_entries = []
whole_entries (entry q r es) = (tree.text q.text, whole r) ∷ whole_entries es

trees-wholes : (rs : RawItems) → faulted.wholes (items_shape rs) ≡ trees (wholes rs)
trees-wholes no_items = refl
trees-wholes (item r rs) = ap (tree.tree (whole r)) (trees-wholes rs)

entries-wholes : (es : RawEntries) → faulted.whole_entries (entries_shape es) ≡ entries (whole_entries es)
entries-wholes no_entries = refl
entries-wholes (entry q r es) = ap (tree.entry (tree.text q.text) (whole r)) (entries-wholes es)

wholes-push : (rs : RawItems) (r : Raw) → wholes (push rs r) ≡ wholes rs ++ whole r ∷ []
wholes-push no_items r = refl
wholes-push (item q qs) r = ap (λ x. whole q ∷ x) (wholes-push qs r)

whole_entries-enter : (es : RawEntries) (q : Quote) (r : Raw) → whole_entries (enter es q r) ≡ whole_entries es ++ (tree.text q.text, whole r) ∷ []
whole_entries-enter no_entries q r = refl
whole_entries-enter (entry j p es) q r = ap (λ x. (tree.text j.text, whole p) ∷ x) (whole_entries-enter es q r)

turns-push : (es : List (Tree × Tree)) (k v : Tree) → turns ((by_turns es ++ k ∷ []) ++ v ∷ []) ≡ es ++ (k, v) ∷ []
turns-push [] k v = refl
turns-push (e ∷ es) k v = ap (λ x. e ∷ x) (turns-push es k v)

by_turns-append : (es : List (Tree × Tree)) (k v : Tree) → by_turns (es ++ (k, v) ∷ []) ≡ (by_turns es ++ k ∷ []) ++ v ∷ []
by_turns-append [] k v = refl
by_turns-append (e ∷ es) k v = ap (λ x. e.0 ∷ e.1 ∷ x) (by_turns-append es k v)

by_turns-length : (es : List (Tree × Tree)) → length (by_turns es) ≡ 2 * length es
by_turns-length [] = refl
by_turns-length (e ∷ es) = omega (arith, by_turns-length es)

even-push : (es : List (Tree × Tree)) (k v : Tree) → length ((by_turns es ++ k ∷ []) ++ v ∷ []) % 2 ≡ 0
even-push es k v = omega (arith, length-append (by_turns es ++ k ∷ []) (v ∷ []), length-append (by_turns es) (k ∷ []), by_turns-length es)

abbrev pub frame_of : Level → Frame
frame_of (in_list at rs) = record { is_map = false; children = wholes rs }
frame_of (in_map at es q) = record { is_map = true; children = by_turns (whole_entries es) ++ tree.text q.text ∷ [] }

abbrev pub frames_of : List Level → List Frame
frames_of [] = []
frames_of (l ∷ ls) = frame_of l ∷ frames_of ls

abbrev pub open_frames : List ℕ → ℕ → List Frame → Built
open_frames input n fs = record { input = input; side_len = n; frames = fs; root = None }

-- with so many bytes beside the input
abbrev pub base : List ℕ → ℕ → State → Built
base input n (value ls) = open_frames input n (frames_of ls)
base input n (fresh_list at ls) = open_frames input n (record { is_map = false; children = [] } ∷ frames_of ls)
base input n (fresh_map at ls) = open_frames input n (record { is_map = true; children = [] } ∷ frames_of ls)
base input n (name at es ls) = open_frames input n (record { is_map = true; children = by_turns (whole_entries es) } ∷ frames_of ls)
base input n (colon at es q ls) = open_frames input n (record { is_map = true; children = by_turns (whole_entries es) ++ tree.text q.text ∷ [] } ∷ frames_of ls)
base input n (after r ls) = added (open_frames input n (frames_of ls)) (whole r)

-- what is built with the token but for what is copied
abbrev core : Token → Built → Built
core (Token.text q) b = added b (tree.text q.text)
core t b = effect t b

core_value : (input : List ℕ) (n : ℕ) (ls : List Level) (t : Token) (next : State) → step_value ls t ≡ Some next → base input n next ≡ core t (open_frames input n (frames_of ls))
core_value input n ls (Token.null at) next h = ap (base input n) (sym (some_is h))
core_value input n ls (Token.truth at b) next h = ap (base input n) (sym (some_is h))
core_value input n ls (Token.number at s) next h = ap (base input n) (sym (some_is h))
core_value input n ls (Token.text q) next h = ap (base input n) (sym (some_is h))
core_value input n ls (Token.open_list at) next h = ap (base input n) (sym (some_is h))
core_value input n ls (Token.open_map at) next h = ap (base input n) (sym (some_is h))
core_value input n ls t next h = absurd (none_some h)

-- where a tree is added says nothing of the frames that were open
same_added : (input : List ℕ) (n : ℕ) (xs ys fs : List Frame) (t u : Tree) → t ≡ u → added_to (open_frames input n xs) fs t ≡ added_to (open_frames input n ys) fs u
same_added input n xs ys [] t u e = ap (λ (z : Tree). let b : Built = record { input = input; side_len = n; frames = []; root = Some z } in b) e
same_added input n xs ys (f ∷ fs) t u e = ap (λ (z : Tree). open_frames input n (record { is_map = f.is_map; children = f.children ++ z ∷ [] } ∷ fs)) e

core_fresh_list : (input : List ℕ) (n at : ℕ) (ls : List Level) (t : Token) (next : State) → step_fresh_list at ls t ≡ Some next → base input n next ≡ core t (base input n (fresh_list at ls))
core_fresh_list input n at ls Token.close_list next h =
    ap (base input n) (sym (some_is h)) ∙ same_added input n (frames_of ls) (record { is_map = false; children = [] } ∷ frames_of ls) (frames_of ls) _ _ refl
core_fresh_list input n at ls t next h = core_value input n (in_list at no_items ∷ ls) t next h

core_name : (input : List ℕ) (n at : ℕ) (es : RawEntries) (ls : List Level) (t : Token) (next : State) → step_name at es ls t ≡ Some next → base input n next ≡ core t (base input n (name at es ls))
core_name input n at es ls (Token.text q) next h = ap (base input n) (sym (some_is h))
core_name input n at es ls t next h = absurd (none_some h)

core_fresh_map : (input : List ℕ) (n at : ℕ) (ls : List Level) (t : Token) (next : State) → step_fresh_map at ls t ≡ Some next → base input n next ≡ core t (base input n (fresh_map at ls))
core_fresh_map input n at ls Token.close_map next h =
    ap (base input n) (sym (some_is h)) ∙ same_added input n (frames_of ls) (record { is_map = true; children = [] } ∷ frames_of ls) (frames_of ls) _ _ refl
core_fresh_map input n at ls t next h = core_name input n at no_entries ls t next h

core_colon : (input : List ℕ) (n at : ℕ) (es : RawEntries) (q : Quote) (ls : List Level) (t : Token) (next : State) → step_colon at es q ls t ≡ Some next → base input n next ≡ core t (base input n (colon at es q ls))
core_colon input n at es q ls Token.colon next h = ap (base input n) (sym (some_is h))
core_colon input n at es q ls t next h = absurd (none_some h)

closes_list : (input : List ℕ) (n at : ℕ) (r : Raw) (rs : RawItems) (ls : List Level) → base input n (after (raw.list at (push rs r)) ls) ≡ closed (base input n (after r (in_list at rs ∷ ls)))
closes_list input n at r rs ls =
    same_added input n (frames_of ls) (record { is_map = false; children = wholes rs ++ whole r ∷ [] } ∷ frames_of ls) (frames_of ls) _ _ (ap tree.list (trees-wholes (push rs r) ∙ ap trees (wholes-push rs r)))

closes_map : (input : List ℕ) (n at : ℕ) (r : Raw) (es : RawEntries) (q : Quote) (ls : List Level) → base input n (after (raw.map at (enter es q r)) ls) ≡ closed (base input n (after r (in_map at es q ∷ ls)))
closes_map input n at r es q ls =
    same_added input n (frames_of ls) (record { is_map = true; children = (by_turns (whole_entries es) ++ tree.text q.text ∷ []) ++ whole r ∷ [] } ∷ frames_of ls) (frames_of ls) _ _
    (ap tree.map (entries-wholes (enter es q r) ∙ ap entries (whole_entries-enter es q r ∙ sym (turns-push (whole_entries es) (tree.text q.text) (whole r)))))

enters : (input : List ℕ) (n at : ℕ) (r : Raw) (es : RawEntries) (q : Quote) (ls : List Level) → base input n (name at (enter es q r) ls) ≡ base input n (after r (in_map at es q ∷ ls))
enters input n at r es q ls =
    ap (λ (x : List Tree). open_frames input n (record { is_map = true; children = x } ∷ frames_of ls)) (ap by_turns (whole_entries-enter es q r) ∙ by_turns-append (whole_entries es) (tree.text q.text) (whole r))

core_after : (input : List ℕ) (n : ℕ) (r : Raw) (l : Level) (ls : List Level) (t : Token) (next : State) → step_after r l ls t ≡ Some next → base input n next ≡ core t (base input n (after r (l ∷ ls)))
core_after input n r (in_list at rs) ls Token.close_list next h = ap (base input n) (sym (some_is h)) ∙ closes_list input n at r rs ls
core_after input n r (in_list at rs) ls Token.comma next h =
    ap (base input n) (sym (some_is h)) ∙ ap (λ (x : List Tree). open_frames input n (record { is_map = false; children = x } ∷ frames_of ls)) (wholes-push rs r)
core_after input n r (in_map at es q) ls Token.close_map next h = ap (base input n) (sym (some_is h)) ∙ closes_map input n at r es q ls
core_after input n r (in_map at es q) ls Token.comma next h = ap (base input n) (sym (some_is h)) ∙ enters input n at r es q ls
core_after input n r l ls t next h = absurd (none_some h)

core_step : (input : List ℕ) (n : ℕ) (s : State) (t : Token) (next : State) → step s t ≡ Some next → base input n next ≡ core t (base input n s)
core_step input n (value ls) t next h = core_value input n ls t next h
core_step input n (fresh_list at ls) t next h = core_fresh_list input n at ls t next h
core_step input n (fresh_map at ls) t next h = core_fresh_map input n at ls t next h
core_step input n (name at es ls) t next h = core_name input n at es ls t next h
core_step input n (colon at es q ls) t next h = core_colon input n at es q ls t next h
core_step input n (after r []) t next h = absurd (none_some h)
core_step input n (after r (l ∷ ls)) t next h = core_after input n r l ls t next h

-- ---- what is copied

longer_base : (input : List ℕ) (n k : ℕ) (s : State) → base input (n + k) s ≡ longer (base input n s) k
longer_base input n k (value ls) = refl
longer_base input n k (fresh_list at ls) = refl
longer_base input n k (fresh_map at ls) = refl
longer_base input n k (name at es ls) = refl
longer_base input n k (colon at es q ls) = refl
longer_base input n k (after r []) = refl
longer_base input n k (after r (l ∷ ls)) = refl

abbrev token_escaped : Token → ℕ
token_escaped (Token.text q) = quote_escaped q
token_escaped t = 0

text_step : (input : List ℕ) (n : ℕ) (s : State) (q : Quote) (next : State) (b : Bool) → step s (Token.text q) ≡ Some next
    → base input (n + cond b (length q.text) 0) next ≡ cond b (added (longer (base input n s) (length q.text)) (tree.text q.text)) (added (base input n s) (tree.text q.text))
text_step input n s q next true h = core_step input (n + length q.text) s (Token.text q) next h ∙ ap (λ (x : Built). added x (tree.text q.text)) (longer_base input n (length q.text) s)
text_step input n s q next false h = ap (λ (m : ℕ). base input m next) (add-zero n) ∙ core_step input n s (Token.text q) next h

other_step : (input : List ℕ) (n : ℕ) (s : State) (t : Token) (next : State) → step s t ≡ Some next → base input (n + 0) next ≡ core t (base input n s)
other_step input n s t next h = ap (λ (m : ℕ). base input m next) (add-zero n) ∙ core_step input n s t next h

base_step : (input : List ℕ) (n : ℕ) (s : State) (t : Token) (next : State) → step s t ≡ Some next → base input (n + token_escaped t) next ≡ effect t (base input n s)
base_step input n s (Token.text q) next h = text_step input n s q next (has_escape q.spelling) h
base_step input n s (Token.null at) next h = other_step input n s (Token.null at) next h
base_step input n s (Token.truth at b) next h = other_step input n s (Token.truth at b) next h
base_step input n s (Token.number at x) next h = other_step input n s (Token.number at x) next h
base_step input n s (Token.open_list at) next h = other_step input n s (Token.open_list at) next h
base_step input n s Token.close_list next h = other_step input n s Token.close_list next h
base_step input n s (Token.open_map at) next h = other_step input n s (Token.open_map at) next h
base_step input n s Token.close_map next h = other_step input n s Token.close_map next h
base_step input n s Token.comma next h = other_step input n s Token.comma next h
base_step input n s Token.colon next h = other_step input n s Token.colon next h

abbrev pub levels_escaped : List Level → ℕ
levels_escaped [] = 0
levels_escaped (in_list at rs ∷ ls) = levels_escaped ls + items_escaped rs
levels_escaped (in_map at es q ∷ ls) = levels_escaped ls + entries_escaped es + quote_escaped q

-- how long the texts with escapes are together so far
abbrev pub side_of : State → ℕ
side_of (value ls) = levels_escaped ls
side_of (fresh_list at ls) = levels_escaped ls
side_of (fresh_map at ls) = levels_escaped ls
side_of (name at es ls) = levels_escaped ls + entries_escaped es
side_of (colon at es q ls) = levels_escaped ls + entries_escaped es + quote_escaped q
side_of (after r ls) = levels_escaped ls + escaped r

items_escaped-push : (rs : RawItems) (r : Raw) → items_escaped (push rs r) ≡ items_escaped rs + escaped r
items_escaped-push no_items r = omega arith
items_escaped-push (item q qs) r = omega (arith, items_escaped-push qs r)

entries_escaped-enter : (es : RawEntries) (q : Quote) (r : Raw) → entries_escaped (enter es q r) ≡ entries_escaped es + quote_escaped q + escaped r
entries_escaped-enter no_entries q r = omega arith
entries_escaped-enter (entry j p es) q r = omega (arith, entries_escaped-enter es q r)

side_value : (ls : List Level) (t : Token) (next : State) → step_value ls t ≡ Some next → side_of next ≡ levels_escaped ls + token_escaped t
side_value ls (Token.null at) next h = ap side_of (sym (some_is h))
side_value ls (Token.truth at b) next h = ap side_of (sym (some_is h))
side_value ls (Token.number at s) next h = ap side_of (sym (some_is h))
side_value ls (Token.text q) next h = ap side_of (sym (some_is h))
side_value ls (Token.open_list at) next h = omega (arith, ap side_of (some_is h))
side_value ls (Token.open_map at) next h = omega (arith, ap side_of (some_is h))
side_value ls t next h = absurd (none_some h)

side_fresh_list : (at : ℕ) (ls : List Level) (t : Token) (next : State) → step_fresh_list at ls t ≡ Some next → side_of next ≡ levels_escaped ls + token_escaped t
side_fresh_list at ls Token.close_list next h = ap side_of (sym (some_is h))
side_fresh_list at ls t next h = side_value (in_list at no_items ∷ ls) t next h ∙ ap (λ (n : ℕ). n + token_escaped t) (add-zero (levels_escaped ls))

side_name : (at : ℕ) (es : RawEntries) (ls : List Level) (t : Token) (next : State) → step_name at es ls t ≡ Some next → side_of next ≡ levels_escaped ls + entries_escaped es + token_escaped t
side_name at es ls (Token.text q) next h = ap side_of (sym (some_is h))
side_name at es ls t next h = absurd (none_some h)

side_fresh_map : (at : ℕ) (ls : List Level) (t : Token) (next : State) → step_fresh_map at ls t ≡ Some next → side_of next ≡ levels_escaped ls + token_escaped t
side_fresh_map at ls Token.close_map next h = ap side_of (sym (some_is h))
side_fresh_map at ls t next h = side_name at no_entries ls t next h ∙ ap (λ (n : ℕ). n + token_escaped t) (add-zero (levels_escaped ls))

side_colon : (at : ℕ) (es : RawEntries) (q : Quote) (ls : List Level) (t : Token) (next : State) → step_colon at es q ls t ≡ Some next → side_of next ≡ levels_escaped ls + entries_escaped es + quote_escaped q + token_escaped t
side_colon at es q ls Token.colon next h = omega (arith, ap side_of (some_is h))
side_colon at es q ls t next h = absurd (none_some h)

side_after : (r : Raw) (l : Level) (ls : List Level) (t : Token) (next : State) → step_after r l ls t ≡ Some next → side_of next ≡ levels_escaped (l ∷ ls) + escaped r + token_escaped t
side_after r (in_list at rs) ls Token.close_list next h = omega (arith, ap side_of (some_is h), items_escaped-push rs r)
side_after r (in_list at rs) ls Token.comma next h = omega (arith, ap side_of (some_is h), items_escaped-push rs r)
side_after r (in_map at es q) ls Token.close_map next h = omega (arith, ap side_of (some_is h), entries_escaped-enter es q r)
side_after r (in_map at es q) ls Token.comma next h = omega (arith, ap side_of (some_is h), entries_escaped-enter es q r)
side_after r l ls t next h = absurd (none_some h)

side_step : (s : State) (t : Token) (next : State) → step s t ≡ Some next → side_of next ≡ side_of s + token_escaped t
side_step (value ls) t next h = side_value ls t next h
side_step (fresh_list at ls) t next h = side_fresh_list at ls t next h
side_step (fresh_map at ls) t next h = side_fresh_map at ls t next h
side_step (name at es ls) t next h = side_name at es ls t next h
side_step (colon at es q ls) t next h = side_colon at es q ls t next h
side_step (after r []) t next h = absurd (none_some h)
side_step (after r (l ∷ ls)) t next h = side_after r l ls t next h

-- ---- what is built

abbrev pub built : List ℕ → State → Built
built input s = base input (side_of s) s

pub built_step : (input : List ℕ) (s : State) (t : Token) (next : State) → step s t ≡ Some next → built input next ≡ effect t (built input s)
built_step input s t next h = ap (λ (n : ℕ). base input n next) (side_step s t next h) ∙ base_step input (side_of s) s t next h

length-frames_of : (ls : List Level) → length (frames_of ls) ≡ length ls
length-frames_of [] = refl
length-frames_of (l ∷ ls) = ap suc (length-frames_of ls)

base_levels : (input : List ℕ) (n : ℕ) (s : State) → length (base input n s).frames ≡ depth_of s
base_levels input n (value ls) = length-frames_of ls
base_levels input n (fresh_list at ls) = ap suc (length-frames_of ls)
base_levels input n (fresh_map at ls) = ap suc (length-frames_of ls)
base_levels input n (name at es ls) = ap suc (length-frames_of ls)
base_levels input n (colon at es q ls) = ap suc (length-frames_of ls)
base_levels input n (after r []) = refl
base_levels input n (after r (l ∷ ls)) = ap suc (length-frames_of ls)

pub levels : (input : List ℕ) (s : State) → length (built input s).frames ≡ depth_of s
levels input s = base_levels input (side_of s) s

base_input : (input : List ℕ) (n : ℕ) (s : State) → (base input n s).input ≡ input
base_input input n (after r []) = refl
base_input input n (after r (l ∷ ls)) = refl
base_input input n s = refl

pub input_is : (input : List ℕ) (s : State) → (built input s).input ≡ input
input_is input s = base_input input (side_of s) s

base_side : (input : List ℕ) (n : ℕ) (s : State) → (base input n s).side_len ≡ n
base_side input n (after r []) = refl
base_side input n (after r (l ∷ ls)) = refl
base_side input n s = refl

root_escaped : (s : State) (r : Raw) → root s ≡ Some r → side_of s ≡ escaped r
root_escaped (after q []) r h = omega (arith, ap escaped (some_is h))
root_escaped s r h = absurd (none_some h)

pub root_side : (input : List ℕ) (s : State) (r : Raw) → root s ≡ Some r → (built input s).side_len ≡ escaped r
root_side input s r h = base_side input (side_of s) s ∙ root_escaped s r h

base_root : (input : List ℕ) (n : ℕ) (s : State) (t : Token) (next : State) → step s t ≡ Some next → (base input n s).root ≡ None
base_root input n (after r []) t next h = absurd (none_some h)
base_root input n (after r (l ∷ ls)) t next h = refl
base_root input n s t next h = refl

pub no_root : (input : List ℕ) (s : State) (t : Token) (next : State) → step s t ≡ Some next → (built input s).root ≡ None
no_root input s t next h = base_root input (side_of s) s t next h

list_closes : (input : List ℕ) (n : ℕ) (s next : State) → step s Token.close_list ≡ Some next → CanClose (base input n s)
list_closes input n (fresh_list at ls) next h = tt
list_closes input n (after r []) next h = absurd (none_some h)
list_closes input n (after r (in_list at rs ∷ ls)) next h = tt
list_closes input n (after r (in_map at es q ∷ ls)) next h = absurd (none_some h)
list_closes input n s next h = absurd (none_some h)

map_closes : (input : List ℕ) (n : ℕ) (s next : State) → step s Token.close_map ≡ Some next → CanClose (base input n s)
map_closes input n (fresh_map at ls) next h = refl
map_closes input n (after r []) next h = absurd (none_some h)
map_closes input n (after r (in_list at rs ∷ ls)) next h = absurd (none_some h)
map_closes input n (after r (in_map at es q ∷ ls)) next h = even-push (whole_entries es) (tree.text q.text) (whole r)
map_closes input n s next h = absurd (none_some h)

pub list_can_close : (input : List ℕ) (s next : State) → step s Token.close_list ≡ Some next → CanClose (built input s)
list_can_close input s next h = list_closes input (side_of s) s next h

pub map_can_close : (input : List ℕ) (s next : State) → step s Token.close_map ≡ Some next → CanClose (built input s)
map_can_close input s next h = map_closes input (side_of s) s next h

base_whole : (input : List ℕ) (n : ℕ) (s : State) (r : Raw) → root s ≡ Some r → (base input n s).root ≡ Some (whole r)
base_whole input n (after q []) r h = ap (λ x. Some (whole x)) (some_is h)
base_whole input n s r h = absurd (none_some h)

pub root_built : (input : List ℕ) (s : State) (r : Raw) → root s ≡ Some r → (built input s).root ≡ Some (whole r)
root_built input s r h = base_whole input (side_of s) s r h

-- ---- the faults

abbrev pub faults : ℕ → Raw → List WireError → List WireError
faults d r k = faulted.faults d (shape_of r) k

abbrev items_faults : ℕ → RawItems → List WireError → List WireError
items_faults d rs k = faulted.items_faults d (items_shape rs) k

abbrev entries_faults : ℕ → RawEntries → List WireError → List WireError
entries_faults d es k = faulted.entries_faults d (entries_shape es) k

items_faults-push : (d : ℕ) (rs : RawItems) (r : Raw) (k : List WireError) → items_faults d (push rs r) k ≡ items_faults d rs (faults d r k)
items_faults-push d no_items r k = refl
items_faults-push d (item q qs) r k = ap (λ x. faults d q x) (items_faults-push d qs r k)

entries_faults-enter : (d : ℕ) (es : RawEntries) (q : Quote) (r : Raw) (k : List WireError) → entries_faults d (enter es q r) k ≡ entries_faults d es (faults d r k)
entries_faults-enter d no_entries q r k = refl
entries_faults-enter d (entry j p es) q r k = ap (λ x. faults d p x) (entries_faults-enter d es q r k)

abbrev pub level_faults : List Level → List WireError → List WireError
level_faults [] k = k
level_faults (in_list at rs ∷ ls) k = level_faults ls (level_fault (length ls) at (items_faults (suc (length ls)) rs k))
level_faults (in_map at es q ∷ ls) k = level_faults ls (level_fault (length ls) at (entries_faults (suc (length ls)) es k))

-- the faults so far, and then the rest
abbrev pub found_faults : State → List WireError → List WireError
found_faults (value ls) k = level_faults ls k
found_faults (fresh_list at ls) k = level_faults ls (level_fault (length ls) at k)
found_faults (fresh_map at ls) k = level_faults ls (level_fault (length ls) at k)
found_faults (name at es ls) k = level_faults ls (level_fault (length ls) at (entries_faults (suc (length ls)) es k))
found_faults (colon at es q ls) k = level_faults ls (level_fault (length ls) at (entries_faults (suc (length ls)) es k))
found_faults (after r ls) k = level_faults ls (faults (length ls) r k)

abbrev token_faults : ℕ → Token → List WireError → List WireError
token_faults depth (Token.number at s) k = number_fault at (key_number s) k
token_faults depth (Token.open_list at) k = level_fault depth at k
token_faults depth (Token.open_map at) k = level_fault depth at k
token_faults depth t k = k

first_if : (b : Bool) (f : WireError) (k : List WireError) → first (cond b k (f ∷ k)) ≡ option_or (cond b None (Some f)) (first k)
first_if true f k = refl
first_if false f k = refl

first_number : (at : ℕ) (o : Option ℤ) (k : List WireError) → first (number_fault at o k) ≡ option_or (number_fault_of at o) (first k)
first_number at (Some n) k = refl
first_number at None k = refl

first_of : (depth : ℕ) (t : Token) (k : List WireError) → first (token_faults depth t k) ≡ option_or (fault_of depth t) (first k)
first_of depth (Token.number at s) k = first_number at (key_number s) k
first_of depth (Token.open_list at) k = first_if (nat_lt depth 128) (TooDeep at) k
first_of depth (Token.open_map at) k = first_if (nat_lt depth 128) (TooDeep at) k
first_of depth t k = refl

faults_value : (ls : List Level) (t : Token) (next : State) (k : List WireError) → step_value ls t ≡ Some next → found_faults next k ≡ level_faults ls (token_faults (length ls) t k)
faults_value ls (Token.null at) next k h = ap (λ s. found_faults s k) (sym (some_is h))
faults_value ls (Token.truth at b) next k h = ap (λ s. found_faults s k) (sym (some_is h))
faults_value ls (Token.number at x) next k h = ap (λ s. found_faults s k) (sym (some_is h))
faults_value ls (Token.text q) next k h = ap (λ s. found_faults s k) (sym (some_is h))
faults_value ls (Token.open_list at) next k h = ap (λ s. found_faults s k) (sym (some_is h))
faults_value ls (Token.open_map at) next k h = ap (λ s. found_faults s k) (sym (some_is h))
faults_value ls t next k h = absurd (none_some h)

faults_fresh_list : (at : ℕ) (ls : List Level) (t : Token) (next : State) (k : List WireError) → step_fresh_list at ls t ≡ Some next
    → found_faults next k ≡ level_faults ls (level_fault (length ls) at (token_faults (suc (length ls)) t k))
faults_fresh_list at ls Token.close_list next k h = ap (λ s. found_faults s k) (sym (some_is h))
faults_fresh_list at ls t next k h = faults_value (in_list at no_items ∷ ls) t next k h

faults_name : (at : ℕ) (es : RawEntries) (ls : List Level) (t : Token) (next : State) (k : List WireError) → step_name at es ls t ≡ Some next
    → found_faults next k ≡ level_faults ls (level_fault (length ls) at (entries_faults (suc (length ls)) es (token_faults (suc (length ls)) t k)))
faults_name at es ls (Token.text q) next k h = ap (λ s. found_faults s k) (sym (some_is h))
faults_name at es ls t next k h = absurd (none_some h)

faults_fresh_map : (at : ℕ) (ls : List Level) (t : Token) (next : State) (k : List WireError) → step_fresh_map at ls t ≡ Some next
    → found_faults next k ≡ level_faults ls (level_fault (length ls) at (token_faults (suc (length ls)) t k))
faults_fresh_map at ls Token.close_map next k h = ap (λ s. found_faults s k) (sym (some_is h))
faults_fresh_map at ls t next k h = faults_name at no_entries ls t next k h

faults_colon : (at : ℕ) (es : RawEntries) (q : Quote) (ls : List Level) (t : Token) (next : State) (k : List WireError) → step_colon at es q ls t ≡ Some next
    → found_faults next k ≡ level_faults ls (level_fault (length ls) at (entries_faults (suc (length ls)) es (token_faults (suc (length ls)) t k)))
faults_colon at es q ls Token.colon next k h = ap (λ s. found_faults s k) (sym (some_is h))
faults_colon at es q ls t next k h = absurd (none_some h)

faults_after : (r : Raw) (l : Level) (ls : List Level) (t : Token) (next : State) (k : List WireError) → step_after r l ls t ≡ Some next
    → found_faults next k ≡ level_faults (l ∷ ls) (faults (suc (length ls)) r (token_faults (suc (length ls)) t k))
faults_after r (in_list at rs) ls Token.close_list next k h =
    ap (λ s. found_faults s k) (sym (some_is h)) ∙ ap (λ x. level_faults ls (level_fault (length ls) at x)) (items_faults-push (suc (length ls)) rs r k)
faults_after r (in_list at rs) ls Token.comma next k h =
    ap (λ s. found_faults s k) (sym (some_is h)) ∙ ap (λ x. level_faults ls (level_fault (length ls) at x)) (items_faults-push (suc (length ls)) rs r k)
faults_after r (in_map at es q) ls Token.close_map next k h =
    ap (λ s. found_faults s k) (sym (some_is h)) ∙ ap (λ x. level_faults ls (level_fault (length ls) at x)) (entries_faults-enter (suc (length ls)) es q r k)
faults_after r (in_map at es q) ls Token.comma next k h =
    ap (λ s. found_faults s k) (sym (some_is h)) ∙ ap (λ x. level_faults ls (level_fault (length ls) at x)) (entries_faults-enter (suc (length ls)) es q r k)
faults_after r l ls t next k h = absurd (none_some h)

faults_step : (s : State) (t : Token) (next : State) (k : List WireError) → step s t ≡ Some next → found_faults next k ≡ found_faults s (token_faults (depth_of s) t k)
faults_step (value ls) t next k h = faults_value ls t next k h
faults_step (fresh_list at ls) t next k h = faults_fresh_list at ls t next k h
faults_step (fresh_map at ls) t next k h = faults_fresh_map at ls t next k h
faults_step (name at es ls) t next k h = faults_name at es ls t next k h
faults_step (colon at es q ls) t next k h = faults_colon at es q ls t next k h
faults_step (after r []) t next k h = absurd (none_some h)
faults_step (after r (l ∷ ls)) t next k h = faults_after r l ls t next k h

option_or-assoc : (a b c : Option WireError) → option_or (option_or a b) c ≡ option_or a (option_or b c)
option_or-assoc None b c = refl
option_or-assoc (Some f) b c = refl

-- the first fault so far
pub record IsFirst (s : State) (fault : Option WireError) : Type 0 where
  pub leads : (k : List WireError) → first (found_faults s k) ≡ option_or fault (first k)

pub first_step : (s : State) (t : Token) (next : State) (depth : ℕ) (fault : Option WireError) → step s t ≡ Some next → depth_of s ≡ depth → IsFirst s fault → IsFirst next (option_or fault (fault_of depth t))
first_step s t next depth fault h d f = record {
  leads = λ k. ap first (faults_step s t next k h) ∙ f.leads (token_faults (depth_of s) t k)
      ∙ ap (λ x. option_or fault x) (first_of (depth_of s) t k ∙ ap (λ n. option_or (fault_of n t) (first k)) d)
      ∙ sym (option_or-assoc fault (fault_of depth t) (first k));
}

root_faults : (s : State) (r : Raw) (k : List WireError) → root s ≡ Some r → found_faults s k ≡ faults 0 r k
root_faults (after q []) r k h = ap (λ x. faults 0 x k) (some_is h)
root_faults s r k h = absurd (none_some h)

pub root_first : (s : State) (r : Raw) (fault : Option WireError) → root s ≡ Some r → IsFirst s fault → first (faults 0 r []) ≡ fault
root_first s r None h f = sym (ap first (root_faults s r [] h)) ∙ f.leads []
root_first s r (Some e) h f = sym (ap first (root_faults s r [] h)) ∙ f.leads []
