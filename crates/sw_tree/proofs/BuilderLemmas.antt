-- Cells put behind cells.
use Rattle.std.proofs.Common.{ℕ, ℤ, pos, get_or, subst, append-nil, zero, suc, ◌+◌, ◌-◌, ◌/◌, ◌≤◌, ◌<◌, ◌≡◌, Bool, true, false, None, Some, Option, List, [], ◌∷◌, ◌++◌, length, take, drop, refl, sym, ◌∙◌, ap, arith, add-one, length-append, length-drop}
use Rattle.std.proofs.lemmas.List.{drop-append-le, take-append-le, set_split}
use Rattle.std.proofs.Math.ListN.{set, drop_of_length-le}
use Rattle.std.proofs.Math.Seq.{take-append_seam, take-length, drop-append_seam}
use Rattle.std.specs.Prelude.{slice_range}
use Rattle.std.specs.Str.{IsUtf8}
use Rattle.sw_tree.proofs.GrowLemmas.{grow, more}
use Rattle.std.specs.Prelude.{is_some}
use Rattle.sw_tree.specs.Tree as tree
use Rattle.sw_tree.specs.Tree.{Tree, depth, trees, trees_depth, entries, entries_depth, turns}
use Rattle.sw_tree.proofs.Tree.{trees_depth-push}
use Rattle.sw_tree.specs.Number.{IsInRange}
use Rattle.sw_tree.specs.Steps.{Each}
use Rattle.sw_tree.specs.Proper.{IsProper, AreProper}
use Rattle.sw_tree.proofs.Proper.{proper-turns}
use Rattle.sw_tree.specs.declared.cell.Cell.{Cell}
use Rattle.sw_tree.specs.declared.cell.Cell.TheVariants.{Null, Bool as Truth, Natural, Negative, Wide, Text, Copied, Bytes, CopiedBytes, List as Items, Map}
use Rattle.sw_tree.specs.declared.builder.Open.{Open}
use Rattle.sw_tree.specs.Inner.Cells.{Store, forest, arity, below, tree_at, Formed, IsFine, IsPart, first}
use Rattle.sw_tree.specs.Builder.{Built, added, longer, opened, closed, built_tree, IsComplete}
use Rattle.sw_tree.specs.Inner.Builder.{finished, meant, Segment, Stacked, Standing, open_of, done_of, root_of, IsFirst}
use Rattle.sw_tree.proofs.CellLemmas.{Formed-drop, forest_proper}

tree_at-append : (s : Store) (c : Cell) (f g : List Tree) → arity c ≤ length f → tree_at s c (f ++ g) ≡ tree_at s c f
tree_at-append s Null f g h = refl
tree_at-append s (Truth b) f g h = refl
tree_at-append s (Natural z) f g h = refl
tree_at-append s (Negative z) f g h = refl
tree_at-append s (Wide k) f g h = refl
tree_at-append s (Text p) f g h = refl
tree_at-append s (Copied p) f g h = refl
tree_at-append s (Bytes p) f g h = refl
tree_at-append s (CopiedBytes p) f g h = refl
tree_at-append s (Items r) f g h = ap (λ (ts : List Tree). tree.list (trees ts)) (take-append-le r.count f g h)
tree_at-append s (Map r) f g h = ap (λ (ts : List Tree). tree.map (entries (turns ts))) (take-append-le (r.count + r.count) f g h)

pub forest-append : (s : Store) (xs ys : List Cell) → Formed s xs → forest s (xs ++ ys) ≡ forest s xs ++ forest s ys
unfolding forest
forest-append s [] ys h = refl
forest-append s (c ∷ xs) ys h =
    let f = forest s xs in
    let g = forest s ys in
    rw (forest-append s xs ys h.1, tree_at-append s c f g h.0.enough, drop-append-le (arity c) f g h.0.enough) refl

pub Formed-append : (s : Store) (xs ys : List Cell) → Formed s xs → Formed s ys → Formed s (xs ++ ys)
Formed-append s [] ys h g = g
Formed-append s (c ∷ xs) ys h g =
    let joined = forest-append s xs ys h.1 in
    let skips : forest s (drop (below c) (xs ++ ys)) ≡ drop (arity c) (forest s (xs ++ ys)) =
    rw (joined, drop-append-le (arity c) (forest s xs) (forest s ys) h.0.enough, drop-append-le (below c) xs ys h.0.inside, forest-append s (drop (below c) xs) ys (Formed-drop s xs (below c) h.1), h.0.skips) refl in
    let enough : arity c ≤ length (forest s (xs ++ ys)) = rw (joined, length-append (forest s xs) (forest s ys)) (omega (arith, h.0.enough)) in
    let inside : below c ≤ length (xs ++ ys) = rw (length-append xs ys) (omega (arith, h.0.inside)) in
    let shallow : depth (tree_at s c (forest s (xs ++ ys))) ≤ 128 = rw (joined, tree_at-append s c (forest s xs) (forest s ys) h.0.enough) h.0.shallow in
    let proper : IsProper (tree_at s c (forest s (xs ++ ys))) = rw (joined, tree_at-append s c (forest s xs) (forest s ys) h.0.enough) h.0.proper in
    (record { fine = h.0.fine; enough = enough; inside = inside; shallow = shallow; proper = proper; skips = skips }, Formed-append s xs ys h.1 g)

-- one more tree behind the cells
pub record Grown (s : Store) (r : List Open) (cells seg : List Cell) (kids : ℕ) (t : Tree) : Type 0 where
  pub stacked : Stacked s r (cells ++ seg) (kids + 1)
  pub means : meant s r (cells ++ seg) ≡ added (meant s r cells) t

Segment-append : (s : Store) (d : ℕ) (cells seg : List Cell) (kids : ℕ) (t : Tree) → Segment s d cells kids → Formed s seg → forest s seg ≡ t ∷ [] → depth t + d ≤ 128 → Segment s d (cells ++ seg) (kids + 1)
Segment-append s d cells seg kids t h g one low =
    record {
      formed = Formed-append s cells seg h.formed g;
      counted = rw (forest-append s cells seg h.formed, one, length-append (forest s cells) (t ∷ [])) (omega (arith, h.counted));
      shallow = rw (forest-append s cells seg h.formed, one, trees_depth-push (forest s cells) t) (omega (arith, h.shallow));
    }

root-push : (f : List Tree) (t : Tree) → root_of f ≡ None → root_of (f ++ t ∷ []) ≡ Some t
root-push [] t h = refl
root-push (x ∷ f) t h = absurd (cc)

pub grown : (s : Store) (r : List Open) (cells seg : List Cell) (kids : ℕ) (t : Tree) → Stacked s r cells kids → root_of (done_of s r cells) ≡ None → Formed s seg → forest s seg ≡ t ∷ [] → depth t + length r ≤ 128 →
    Grown s r cells seg kids t
grown s [] cells seg kids t h none g one low =
    record {
      stacked = Segment-append s 0 cells seg kids t h g one low;
      means = rw (forest-append s cells seg h.formed, one, root-push (forest s cells) t none) refl;
    }
grown s (o ∷ outer) cells seg kids t h none g one low =
    let d = drop-append-le (o.at + 1) cells seg (omega (arith, h.0)) in
    let k = take-append-le o.at cells seg (omega (arith, h.0)) in
    let lt : o.at < length (cells ++ seg) = rw (length-append cells seg) (omega (arith, h.0)) in
    record {
      stacked = (lt, h.1, rw d (Segment-append s (length outer + 1) (drop (o.at + 1) cells) seg kids t h.2 g one (omega (arith, low))), rw k h.3);
      means = rw (d, k, forest-append s (drop (o.at + 1) cells) seg h.2.formed, one) refl;
    }

-- cells mean as many trees at most
pub forest_le : (s : Store) (cells : List Cell) → length (forest s cells) ≤ length cells
unfolding forest
forest_le s [] = omega arith
forest_le s (c ∷ cs) = omega (arith, forest_le s cs, length-drop (arity c) (forest s cs))

pub kids_le : (s : Store) (r : List Open) (cells : List Cell) (kids : ℕ) → Stacked s r cells kids → kids ≤ length cells
kids_le s [] cells kids h = omega (arith, h.counted, forest_le s cells)
kids_le s (o ∷ outer) cells kids h = omega (arith, h.2.counted, forest_le s (drop (o.at + 1) cells), length-drop (o.at + 1) cells)

pub opens_le : (s : Store) (r : List Open) (cells : List Cell) (kids : ℕ) → Stacked s r cells kids → length r ≤ 128
opens_le s [] cells kids h = omega arith
opens_le s (o ∷ outer) cells kids h = omega (arith, h.2.shallow)

pub frames_len : (s : Store) (r : List Open) (cells : List Cell) → length (open_of s r cells) ≡ length r
frames_len s [] cells = refl
frames_len s (o ∷ outer) cells = omega (arith, frames_len s outer (take o.at cells))

-- a cell with nothing below it
pub leaf : (s : Store) (c : Cell) → IsFine s c → arity c ≡ 0 → below c ≡ 0 → depth (tree_at s c []) ≤ 128 → IsProper (tree_at s c []) → Formed s (c ∷ [])
unfolding forest
leaf s c fine none low shallow proper = (record { fine = fine; enough = omega arith; inside = omega arith; shallow = shallow; proper = proper; skips = rw (none, low) refl }, tt)

pub leaf_tree : (s : Store) (c : Cell) → arity c ≡ 0 → forest s (c ∷ []) ≡ tree_at s c [] ∷ []
unfolding forest
leaf_tree s c none = rw none refl

pub with_leaf : (s : Store) (r : List Open) (cells : List Cell) (kids : ℕ) (c : Cell) → Stacked s r cells kids → root_of (done_of s r cells) ≡ None → IsFine s c → arity c ≡ 0 → below c ≡ 0 → depth (tree_at s c []) + length r ≤ 128 → IsProper (tree_at s c []) →
    Grown s r cells (c ∷ []) kids (tree_at s c [])
with_leaf s r cells kids c h rootless fine none low shallow proper =
    grown s r cells (c ∷ []) kids (tree_at s c []) h rootless (leaf s c fine none low (omega (arith, shallow)) proper) (leaf_tree s c none) shallow

-- a list or map is opened behind the cells
pub record Opening (s : Store) (r : List Open) (cells : List Cell) (c : Cell) (o : Open) : Type 0 where
  pub stacked : Stacked s (o ∷ r) (cells ++ c ∷ []) 0
  pub means : meant s (o ∷ r) (cells ++ c ∷ []) ≡ opened (meant s r cells) o.is_map

rootless_at : (s : Store) (r : List Open) (cells : List Cell) → root_of (done_of s r cells) ≡ None → r ≡ [] → length cells ≡ 0
unfolding forest
rootless_at s [] [] none e = refl
rootless_at s [] (c ∷ cs) none e = absurd (cc)
rootless_at s (o ∷ r) cells none e = absurd (cc)

first_at : (s : Store) (r : List Open) (cells : List Cell) → root_of (done_of s r cells) ≡ None → IsFirst r (length cells)
first_at s [] cells none = rootless_at s [] cells none refl
first_at s (o ∷ r) cells none = tt

pub opening : (s : Store) (r : List Open) (cells : List Cell) (c : Cell) (o : Open) → o.at ≡ length cells → length r < 128 → root_of (done_of s r cells) ≡ None → Stacked s r cells o.kids → Opening s r cells c o
unfolding forest
opening s r cells c o at few none h =
    let seg : List Cell = c ∷ [] in
    let over : length (cells ++ c ∷ []) ≤ o.at + 1 = rw (length-append cells seg) (omega arith) in
    let behind : drop (o.at + 1) (cells ++ c ∷ []) ≡ [] = drop_of_length-le (cells ++ seg) over in
    let before : take o.at (cells ++ c ∷ []) ≡ cells = rw (at, take-append_seam cells seg) refl in
    let lt : o.at < length (cells ++ c ∷ []) = rw (length-append cells seg) (omega arith) in
    record {
      stacked = (lt, rw at (first_at s r cells none), rw behind (record { formed = tt; counted = refl; shallow = omega arith }), rw before h);
      means = rw (behind, before) refl;
    }

-- nothing is finished where a list or map is open
pub rootless : (s : Store) (o : Open) (r : List Open) (cells : List Cell) (kids : ℕ) → Stacked s (o ∷ r) cells kids → root_of (done_of s (o ∷ r) cells) ≡ None
unfolding forest
rootless s o [] cells kids h = rw h.1 refl
rootless s o (p ∷ r) cells kids h = rootless s p r (take o.at cells) o.kids h.3

turns_depth : (ts : List Tree) → entries_depth (entries (turns ts)) ≤ trees_depth (trees ts)
turns_depth [] = omega arith
turns_depth (k ∷ []) = omega arith
turns_depth (k ∷ v ∷ ts) = omega (arith, turns_depth ts)

built_depth : (b : Bool) (ts : List Tree) → depth (built_tree b ts) ≤ trees_depth (trees ts) + 1
built_depth false ts = omega arith
built_depth true ts = omega (arith, turns_depth ts)

built_proper : (b : Bool) (ts : List Tree) → AreProper (trees ts) → IsProper (built_tree b ts)
built_proper false ts h = h
built_proper true ts h = proper-turns ts h

-- a cell over all the trees behind it
pub record Over (s : Store) (c : Cell) (cs : List Cell) (t : Tree) : Type 0 where
  pub formed : Formed s (c ∷ cs)
  pub one : forest s (c ∷ cs) ≡ t ∷ []

over : (s : Store) (c : Cell) (cs : List Cell) (t : Tree) → Formed s cs → IsFine s c → arity c ≡ length (forest s cs) → below c ≡ length cs → tree_at s c (forest s cs) ≡ t → depth t ≤ 128 → IsProper t → Over s c cs t
unfolding forest
over s c cs t h fine all low is shallow proper =
    let none : drop (below c) cs ≡ [] = drop_of_length-le cs (omega (arith, low)) in
    let rest : drop (arity c) (forest s cs) ≡ [] = drop_of_length-le (forest s cs) (omega (arith, all)) in
    record {
      formed = (record { fine = fine; enough = omega (arith, all); inside = omega (arith, low); shallow = rw is shallow; proper = rw is proper; skips = rw (none, rest) refl }, h);
      one = rw (rest, is) refl;
    }

pub finished_over : (b : Bool) (s : Store) (d : ℕ) (cs : List Cell) (kids low : ℕ) → Segment s (d + 1) cs kids → low ≡ length cs → IsComplete b (forest s cs) → Over s (finished b kids low) cs (built_tree b (forest s cs))
finished_over false s d cs kids low h e full =
    let all : take kids (forest s cs) ≡ forest s cs = rw (h.counted, take-length) refl in
    over s _ cs _ h.formed tt h.counted e (rw all refl) (omega (arith, built_depth false (forest s cs), h.shallow)) (built_proper false (forest s cs) (forest_proper s cs h.formed))
finished_over true s d cs kids low h e full =
    let twice : kids / 2 + kids / 2 ≡ length (forest s cs) = omega (arith, h.counted, full) in
    let all : take (kids / 2 + kids / 2) (forest s cs) ≡ forest s cs = rw (twice, take-length) refl in
    over s _ cs _ h.formed tt twice e (rw all refl) (omega (arith, built_depth true (forest s cs), h.shallow)) (built_proper true (forest s cs) (forest_proper s cs h.formed))

-- the innermost is closed
pub record Closing (s : Store) (r : List Open) (o : Open) (cells : List Cell) (kids low : ℕ) : Type 0 where
  pub stacked : Stacked s r (set cells o.at (finished o.is_map kids low)) (o.kids + 1)
  pub means : meant s r (set cells o.at (finished o.is_map kids low)) ≡ closed (meant s (o ∷ r) cells)

pub closing : (s : Store) (r : List Open) (o : Open) (cells : List Cell) (kids low : ℕ) → Stacked s (o ∷ r) cells kids → low ≡ length cells - o.at - 1 → IsComplete o.is_map (forest s (drop (o.at + 1) cells)) → Closing s r o cells kids low
closing s r o cells kids low h e full =
    let c : Cell = finished o.is_map kids low in
    let kept = drop (o.at + 1) cells in
    let split : set cells o.at c ≡ take o.at cells ++ c ∷ drop (o.at + 1) cells = rw (set_split cells o.at c h.0, add-one) refl in
    let b : low ≡ length (drop (o.at + 1) cells) = rw (length-drop (o.at + 1) cells) (omega arith) in
    let is = finished_over o.is_map s (length r) kept kids low h.2 b full in
    let shallow : depth (built_tree o.is_map (forest s kept)) + length r ≤ 128 = omega (arith, built_depth o.is_map (forest s kept), h.2.shallow) in
    let g = grown s r (take o.at cells) (c ∷ kept) o.kids (built_tree o.is_map (forest s kept)) h.3 (rootless s o r cells kids h) is.formed is.one shallow in
    record { stacked = rw split g.stacked; means = rw split g.means }

-- nothing is open, and a tree is finished
pub record Finishing (s : Store) (r : List Open) (cells : List Cell) : Type 0 where
  pub formed : Formed s cells
  pub some : 0 < length cells
  pub means : Some (first (forest s cells)) ≡ root_of (done_of s r cells)

finishing_at : (s : Store) (cells : List Cell) → is_some (root_of (forest s cells)) ≡ true → 0 < length cells
unfolding forest
finishing_at s [] some = absurd (cc)
finishing_at s (c ∷ cs) some = omega arith

first_root : (ts : List Tree) → is_some (root_of ts) ≡ true → Some (first ts) ≡ root_of ts
first_root [] h = absurd (cc)
first_root (t ∷ ts) h = refl

some_none : (o : Option Tree) → o ≡ None → is_some o ≡ true → ⊥
some_none o e h = cc

pub finishing : (s : Store) (r : List Open) (cells : List Cell) (kids : ℕ) → Stacked s r cells kids → is_some (root_of (done_of s r cells)) ≡ true → Finishing s r cells
finishing s [] cells kids h some = record { formed = h.formed; some = finishing_at s cells some; means = first_root (forest s cells) some }
finishing s (o ∷ r) cells kids h some = absurd (some_none _ (rootless s o r cells kids h) some)

pub fits_below : (d f r : ℕ) → d ≤ 1 → (0 < d → f < 128) → f ≡ r → r ≤ 128 → d + r ≤ 128
fits_below zero f r one room same le = omega arith
fits_below (suc d) f r one room same le = omega (arith, room (omega arith))

-- a leaf whose content is kept beside the input
pub record Kept (s t : Store) (r : List Open) (cells : List Cell) (kids n : ℕ) (c : Cell) (x : Tree) : Type 0 where
  pub stacked : Stacked t r (cells ++ c ∷ []) (kids + 1)
  pub means : meant t r (cells ++ c ∷ []) ≡ added (longer (meant s r cells) n) x

kept : (s : Store) (m : List ℕ) (w : List ℤ) (r : List Open) (cells : List Cell) (kids : ℕ) (c : Cell) (x : Tree) → Stacked s r cells kids → root_of (done_of s r cells) ≡ None →
    IsFine (grow s m w) c → arity c ≡ 0 → below c ≡ 0 → tree_at (grow s m w) c [] ≡ x → depth x + length r ≤ 128 → IsProper x → Kept s (grow s m w) r cells kids (length m) c x
kept s m w r cells kids c x h none fine flat low is shallow proper =
    let g = more s m w r cells kids h in
    let l = with_leaf (grow s m w) r cells kids c g.stacked (ap root_of g.done ∙ none) fine flat low (rw is shallow) (rw is proper) in
    let same : meant (grow s m w) r cells ≡ longer (meant s r cells) (length m) = rw (g.frames, g.done, length-append s.side m) refl in
    record { stacked = l.stacked; means = l.means ∙ ap (λ (b : Built). added b (tree_at (grow s m w) c [])) same ∙ ap (added (longer (meant s r cells) (length m))) is }

range_whole : (s m : List ℕ) (start end : ℕ) → start ≡ length s → end ≡ length (s ++ m) → slice_range (s ++ m) start end ≡ m
range_whole s m start end a b =
    let e : end - start ≡ length m = rw (b, a, length-append s m) (omega arith) in
    rw (e, a, drop-append_seam s m, take-length) refl

pub kept_text : (s : Store) (m : List ℕ) (r : List Open) (cells : List Cell) (kids start end : ℕ) → start ≡ length s.side → end ≡ length (s.side ++ m) → IsUtf8 m → Stacked s r cells kids → root_of (done_of s r cells) ≡ None →
    Kept s (record { input = s.input; side = s.side ++ m; wides = s.wides }) r cells kids (length m) (Copied (record { start = start; end = end })) (tree.text m)
kept_text s m r cells kids start end a b utf8 h none =
    let whole = range_whole s.side m start end a b in
    let lies : IsPart (s.side ++ m) (record { start = start; end = end }) = record { ordered = rw (a, b, length-append s.side m) (omega arith); inside = omega arith } in
    subst (λ (ws : List ℤ). Kept s (record { input = s.input; side = s.side ++ m; wides = ws }) r cells kids (length m) (Copied (record { start = start; end = end })) (tree.text m)) (append-nil s.wides)
    (kept s m [] r cells kids (Copied (record { start = start; end = end })) (tree.text m) h none (record { lies = lies; utf8 = subst IsUtf8 (sym whole) utf8 }) refl refl (ap tree.text whole) (omega (arith, opens_le s r cells kids h)) utf8)

pub kept_bytes : (s : Store) (m : List ℕ) (r : List Open) (cells : List Cell) (kids start end : ℕ) → start ≡ length s.side → end ≡ length (s.side ++ m) → 1 + length r ≤ 128 → Each (λ b. b < 256) m → Stacked s r cells kids → root_of (done_of s r cells) ≡ None →
    Kept s (record { input = s.input; side = s.side ++ m; wides = s.wides }) r cells kids (length m) (CopiedBytes (record { start = start; end = end })) (tree.bytes m)
kept_bytes s m r cells kids start end a b room small h none =
    let whole = range_whole s.side m start end a b in
    let lies : IsPart (s.side ++ m) (record { start = start; end = end }) = record { ordered = rw (a, b, length-append s.side m) (omega arith); inside = omega arith } in
    subst (λ (ws : List ℤ). Kept s (record { input = s.input; side = s.side ++ m; wides = ws }) r cells kids (length m) (CopiedBytes (record { start = start; end = end })) (tree.bytes m)) (append-nil s.wides)
    (kept s m [] r cells kids (CopiedBytes (record { start = start; end = end })) (tree.bytes m) h none lies refl refl (ap tree.bytes whole) room small)

last_wide : (ws : List ℤ) (z d : ℤ) → get_or (ws ++ z ∷ []) (length ws) d ≡ z
last_wide [] z d = refl
last_wide (w ∷ ws) z d = last_wide ws z d

pub kept_wide : (s : Store) (z : ℤ) (r : List Open) (cells : List Cell) (kids index : ℕ) → index ≡ length s.wides → IsInRange z → Stacked s r cells kids → root_of (done_of s r cells) ≡ None →
    Kept s (record { input = s.input; side = s.side; wides = s.wides ++ z ∷ [] }) r cells kids 0 (Wide index) (tree.int z)
kept_wide s z r cells kids index a range h none =
    let all : length (s.wides ++ z ∷ []) ≡ length s.wides + 1 = length-append s.wides (z ∷ []) in
    let is : tree_at (grow s [] (z ∷ [])) (Wide index) [] ≡ tree.int z = rw a (ap tree.int (last_wide s.wides z (pos 0))) in
    subst (λ (side : List ℕ). Kept s (record { input = s.input; side = side; wides = s.wides ++ z ∷ [] }) r cells kids 0 (Wide index) (tree.int z)) (append-nil s.side)
    (kept s [] (z ∷ []) r cells kids (Wide index) (tree.int z) h none (omega (arith, all, a)) refl refl is (omega (arith, opens_le s r cells kids h)) range)

-- one cell more, of which there stay fewer than 2 ^ 32
pub stands : (s : Store) (r : List Open) (cells : List Cell) (c : Cell) (kids : ℕ) → Stacked s r (cells ++ c ∷ []) kids → length cells + 1 < 4294967296 → Standing s r (cells ++ c ∷ []) kids
stands s r cells c kids h few = let one : List Cell = c ∷ [] in record { stacked = h; few = rw (length-append cells one) (omega arith) }

pub longer-none : (b : Built) → longer b 0 ≡ b
longer-none b = ap (λ (n : ℕ). record { input = b.input; side_len = n; frames = b.frames; root = b.root }) (omega arith)
