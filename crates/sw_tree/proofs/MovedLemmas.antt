-- Cells that are moved to where their ranges begin mean what they meant.
use Rattle.std.proofs.Common.{ℕ, pos, zero, suc, ◌+◌, ◌-◌, ◌≤◌, ◌<◌, ◌≡◌, List, [], ◌∷◌, length, drop, get_or, map, refl, sym, ap, subst, arith, length-drop}
use Rattle.std.proofs.lemmas.List.{length-map, take-take, length-take-le, drop-take, drop-drop, drop-map, get_or-take, get_or-drop}
use Rattle.std.specs.Prelude.{slice_range}
use Rattle.std.specs.Str.{IsUtf8}
use Rattle.sw_tree.specs.declared.cell.Cell.{Cell}
use Rattle.sw_tree.specs.declared.cell.Span.{Span}
use Rattle.sw_tree.specs.declared.cell.Cell.TheVariants.{Null, Bool, Natural, Negative, Wide, Text, Copied, Bytes, CopiedBytes, List as Items, Map}
use Rattle.sw_tree.specs.declared.part.Stretch.{Stretch}
use Rattle.sw_tree.specs.declared.part.Reach.{Reach}
use Rattle.sw_tree.specs.Steps.{Each}
use Rattle.sw_tree.specs.Tree as tree
use Rattle.sw_tree.specs.Tree.{Tree, depth}
use Rattle.sw_tree.specs.Proper.{IsProper}
use Rattle.sw_tree.specs.Inner.Cells.{Store, Formed, IsFine, IsPart, IsText, part, forest, arity, below, tree_at}
use Rattle.sw_tree.specs.Inner.Moved.{joined, widened, reach_from, nothing, all_settled, reach_of, moved_span, moved}
use Rattle.sw_tree.proofs.Cutting.{cut}
use Rattle.sw_tree.proofs.CellLemmas.{Formed-drop}

pub record Lies (r : Stretch) (start end : ℕ) : Type 0 where
  pub from : r.start ≤ start
  pub to : end ≤ r.end

-- the ranges hold what the cell points into
abbrev pub Within : Reach → Cell → Type 0
Within g (Wide k) = Lies g.wides k (k + 1)
Within g (Text p) = Lies g.input p.start p.end
Within g (Bytes p) = Lies g.input p.start p.end
Within g (Copied p) = Lies g.side p.start p.end
Within g (CopiedBytes p) = Lies g.side p.start p.end
Within g Null = Unit {0}
Within g (Bool b) = Unit {0}
Within g (Natural z) = Unit {0}
Within g (Negative z) = Unit {0}
Within g (Items r) = Unit {0}
Within g (Map r) = Unit {0}

record Covers (h g : Reach) : Type 0 where
  input : Lies h.input g.input.start g.input.end
  side : Lies h.side g.side.start g.side.end
  wides : Lies h.wides g.wides.start g.wides.end

lies_over : (r q : Stretch) (start end : ℕ) → Lies r q.start q.end → Lies q start end → Lies r start end
lies_over r q start end h g = record { from = omega (arith, h.from, g.from); to = omega (arith, h.to, g.to) }

lies_same : (r : Stretch) → Lies r r.start r.end
lies_same r = record { from = omega arith; to = omega arith }

covers_same : (g : Reach) → Covers g g
covers_same g = record { input = lies_same g.input; side = lies_same g.side; wides = lies_same g.wides }

covers_over : (h g f : Reach) → Covers h g → Covers g f → Covers h f
covers_over h g f p q =
    record {
      input = lies_over h.input g.input f.input.start f.input.end p.input q.input;
      side = lies_over h.side g.side f.side.start f.side.end p.side q.side;
      wides = lies_over h.wides g.wides f.wides.start f.wides.end p.wides q.wides;
    }

within_over : (h g : Reach) (c : Cell) → Covers h g → Within g c → Within h c
within_over h g (Wide k) p w = lies_over h.wides g.wides k (k + 1) p.wides w
within_over h g (Text q) p w = lies_over h.input g.input q.start q.end p.input w
within_over h g (Bytes q) p w = lies_over h.input g.input q.start q.end p.input w
within_over h g (Copied q) p w = lies_over h.side g.side q.start q.end p.side w
within_over h g (CopiedBytes q) p w = lies_over h.side g.side q.start q.end p.side w
within_over h g Null p w = tt
within_over h g (Bool b) p w = tt
within_over h g (Natural z) p w = tt
within_over h g (Negative z) p w = tt
within_over h g (Items r) p w = tt
within_over h g (Map r) p w = tt

joined_first : (r : Stretch) (start end : ℕ) → Lies (joined r start end) r.start r.end
joined_first r start end = record { from = omega arith; to = omega arith }

joined_second : (r : Stretch) (start end : ℕ) → Lies (joined r start end) start end
joined_second r start end = record { from = omega arith; to = omega arith }

widened_covers : (g : Reach) (c : Cell) → Covers (widened g c) g
widened_covers g (Wide k) = record { input = lies_same g.input; side = lies_same g.side; wides = joined_first g.wides k (k + 1) }
widened_covers g (Text q) = record { input = joined_first g.input q.start q.end; side = lies_same g.side; wides = lies_same g.wides }
widened_covers g (Bytes q) = record { input = joined_first g.input q.start q.end; side = lies_same g.side; wides = lies_same g.wides }
widened_covers g (Copied q) = record { input = lies_same g.input; side = joined_first g.side q.start q.end; wides = lies_same g.wides }
widened_covers g (CopiedBytes q) = record { input = lies_same g.input; side = joined_first g.side q.start q.end; wides = lies_same g.wides }
widened_covers g Null = covers_same g
widened_covers g (Bool b) = covers_same g
widened_covers g (Natural z) = covers_same g
widened_covers g (Negative z) = covers_same g
widened_covers g (Items r) = covers_same g
widened_covers g (Map r) = covers_same g

widened_within : (g : Reach) (c : Cell) → Within (widened g c) c
widened_within g (Wide k) = joined_second g.wides k (k + 1)
widened_within g (Text q) = joined_second g.input q.start q.end
widened_within g (Bytes q) = joined_second g.input q.start q.end
widened_within g (Copied q) = joined_second g.side q.start q.end
widened_within g (CopiedBytes q) = joined_second g.side q.start q.end
widened_within g Null = tt
widened_within g (Bool b) = tt
widened_within g (Natural z) = tt
widened_within g (Negative z) = tt
widened_within g (Items r) = tt
widened_within g (Map r) = tt

from_covers : (g : Reach) (cs : List Cell) → Covers (reach_from g cs) g
from_covers g [] = covers_same g
from_covers g (c ∷ cs) = covers_over (reach_from (widened g c) cs) (widened g c) g (from_covers (widened g c) cs) (widened_covers g c)

settled_covers : (g : Reach) → Covers (all_settled g) g
settled_covers g = record { input = record { from = omega arith; to = omega arith }; side = record { from = omega arith; to = omega arith }; wides = record { from = omega arith; to = omega arith } }

from_within : (h g : Reach) (cs : List Cell) → Covers h (reach_from g cs) → Each (Within h) cs
from_within h g [] p = tt
from_within h g (c ∷ cs) p =
    let f = from_covers (widened g c) cs in
    (within_over h (widened g c) c (covers_over h (reach_from (widened g c) cs) (widened g c) p f) (widened_within g c), from_within h (widened g c) cs p)

-- the ranges lie in what the cells point into
pub record Inside (s : Store) (g : Reach) : Type 0 where
  pub input : g.input.end ≤ length s.input
  pub side : g.side.end ≤ length s.side
  pub wides : g.wides.end ≤ length s.wides

joined_inside : {A : Type 0} (xs : List A) (r : Stretch) (start end : ℕ) → r.end ≤ length xs → end ≤ length xs → (joined r start end).end ≤ length xs
joined_inside xs r start end h g = omega arith

widened_inside : (s : Store) (g : Reach) (c : Cell) → IsFine s c → Inside s g → Inside s (widened g c)
widened_inside s g (Wide k) f h = record { input = h.input; side = h.side; wides = joined_inside s.wides g.wides k (k + 1) h.wides (omega (arith, f)) }
widened_inside s g (Text q) f h = record { input = joined_inside s.input g.input q.start q.end h.input f.lies.inside; side = h.side; wides = h.wides }
widened_inside s g (Bytes q) f h = record { input = joined_inside s.input g.input q.start q.end h.input f.inside; side = h.side; wides = h.wides }
widened_inside s g (Copied q) f h = record { input = h.input; side = joined_inside s.side g.side q.start q.end h.side f.lies.inside; wides = h.wides }
widened_inside s g (CopiedBytes q) f h = record { input = h.input; side = joined_inside s.side g.side q.start q.end h.side f.inside; wides = h.wides }
widened_inside s g Null f h = h
widened_inside s g (Bool b) f h = h
widened_inside s g (Natural z) f h = h
widened_inside s g (Negative z) f h = h
widened_inside s g (Items r) f h = h
widened_inside s g (Map r) f h = h

from_inside : (s : Store) (g : Reach) (cs : List Cell) → Formed s cs → Inside s g → Inside s (reach_from g cs)
from_inside s g [] f h = h
from_inside s g (c ∷ cs) f h = from_inside s (widened g c) cs f.1 (widened_inside s g c f.0.fine h)

-- what a part of a part is
range_cut : {A : Type 0} (xs : List A) (a b i j : ℕ) → a ≤ i → i ≤ j → j ≤ b → slice_range (slice_range xs a b) (i - a) (j - a) ≡ slice_range xs i j
range_cut xs a b i j p q r =
    let wide : b - a ≡ (i - a) + (b - i) = omega arith in
    let narrow : (j - a) - (i - a) ≡ j - i = omega arith in
    let on : a + (i - a) ≡ i = omega arith in
    rw (narrow, wide, drop-take (i - a) (b - i) (drop a xs), take-take (j - i) (b - i) (drop (i - a) (drop a xs)) (omega arith), drop-drop (i - a) a xs, on) refl

range_length : {A : Type 0} (xs : List A) (a b : ℕ) → b ≤ length xs → length (slice_range xs a b) ≡ b - a
range_length xs a b h = length-take-le (b - a) (drop a xs) (omega (arith, length-drop a xs))

range_at : {A : Type 0} (xs : List A) (a b k : ℕ) (d : A) → a ≤ k → k < b → get_or (slice_range xs a b) (k - a) d ≡ get_or xs k d
range_at xs a b k d p q =
    let on : a + (k - a) ≡ k = omega arith in
    let lt : k - a < b - a = omega arith in
    rw (get_or-take (b - a) (drop a xs) (k - a) d lt, get_or-drop a xs (k - a) d, on) refl

moved_part : (xs : List ℕ) (r : Stretch) (p : Span) → IsPart xs p → Lies r p.start p.end → part (slice_range xs r.start r.end) (moved_span r.start p) ≡ part xs p
moved_part xs r p h w = range_cut xs r.start r.end p.start p.end w.from h.ordered w.to

moved_lies : (xs : List ℕ) (r : Stretch) (p : Span) → r.end ≤ length xs → IsPart xs p → Lies r p.start p.end → IsPart (slice_range xs r.start r.end) (moved_span r.start p)
moved_lies xs r p i h w = record { ordered = omega (arith, h.ordered); inside = rw (range_length xs r.start r.end i) (omega (arith, w.to)) }

moved_text : (xs : List ℕ) (r : Stretch) (p : Span) → r.end ≤ length xs → IsText xs p → Lies r p.start p.end → IsText (slice_range xs r.start r.end) (moved_span r.start p)
moved_text xs r p i h w = record { lies = moved_lies xs r p i h.lies w; utf8 = subst IsUtf8 (sym (moved_part xs r p h.lies w)) h.utf8 }

fine_moved : (s : Store) (g : Reach) (c : Cell) → Inside s g → IsFine s c → Within g c → IsFine (cut s g) (moved g c)
fine_moved s g (Wide k) i f w = rw (range_length s.wides g.wides.start g.wides.end i.wides) (omega (arith, w.from, w.to))
fine_moved s g (Text p) i f w = moved_text s.input g.input p i.input f w
fine_moved s g (Bytes p) i f w = moved_lies s.input g.input p i.input f w
fine_moved s g (Copied p) i f w = moved_text s.side g.side p i.side f w
fine_moved s g (CopiedBytes p) i f w = moved_lies s.side g.side p i.side f w
fine_moved s g Null i f w = tt
fine_moved s g (Bool b) i f w = tt
fine_moved s g (Natural z) i f w = tt
fine_moved s g (Negative z) i f w = tt
fine_moved s g (Items r) i f w = tt
fine_moved s g (Map r) i f w = tt

tree_moved : (s : Store) (g : Reach) (c : Cell) (ts : List Tree) → IsFine s c → Within g c → tree_at (cut s g) (moved g c) ts ≡ tree_at s c ts
tree_moved s g (Wide k) ts f w = ap tree.int (range_at s.wides g.wides.start g.wides.end k (pos 0) w.from (omega (arith, w.to)))
tree_moved s g (Text p) ts f w = ap tree.text (moved_part s.input g.input p f.lies w)
tree_moved s g (Bytes p) ts f w = ap tree.bytes (moved_part s.input g.input p f w)
tree_moved s g (Copied p) ts f w = ap tree.text (moved_part s.side g.side p f.lies w)
tree_moved s g (CopiedBytes p) ts f w = ap tree.bytes (moved_part s.side g.side p f w)
tree_moved s g Null ts f w = refl
tree_moved s g (Bool b) ts f w = refl
tree_moved s g (Natural z) ts f w = refl
tree_moved s g (Negative z) ts f w = refl
tree_moved s g (Items r) ts f w = refl
tree_moved s g (Map r) ts f w = refl

arity_moved : (g : Reach) (c : Cell) → arity (moved g c) ≡ arity c
arity_moved g (Wide k) = refl
arity_moved g (Text p) = refl
arity_moved g (Bytes p) = refl
arity_moved g (Copied p) = refl
arity_moved g (CopiedBytes p) = refl
arity_moved g Null = refl
arity_moved g (Bool b) = refl
arity_moved g (Natural z) = refl
arity_moved g (Negative z) = refl
arity_moved g (Items r) = refl
arity_moved g (Map r) = refl

below_moved : (g : Reach) (c : Cell) → below (moved g c) ≡ below c
below_moved g (Wide k) = refl
below_moved g (Text p) = refl
below_moved g (Bytes p) = refl
below_moved g (Copied p) = refl
below_moved g (CopiedBytes p) = refl
below_moved g Null = refl
below_moved g (Bool b) = refl
below_moved g (Natural z) = refl
below_moved g (Negative z) = refl
below_moved g (Items r) = refl
below_moved g (Map r) = refl

each_drop : (P : Cell → Type 0) (n : ℕ) (cs : List Cell) → Each P cs → Each P (drop n cs)
each_drop P zero cs h = h
each_drop P (suc n) [] h = tt
each_drop P (suc n) (c ∷ cs) h = each_drop P n cs h.1

forest_moved : (s : Store) (g : Reach) (cs : List Cell) → Formed s cs → Each (Within g) cs → forest (cut s g) (map (moved g) cs) ≡ forest s cs
unfolding forest
forest_moved s g [] h w = refl
forest_moved s g (c ∷ cs) h w = rw (forest_moved s g cs h.1 w.1, tree_moved s g c (forest s cs) h.0.fine w.0, arity_moved g c) refl

formed_moved : (s : Store) (g : Reach) (cs : List Cell) → Inside s g → Formed s cs → Each (Within g) cs → Formed (cut s g) (map (moved g) cs)
formed_moved s g [] i h w = tt
formed_moved s g (c ∷ cs) i h w =
    let n = arity_moved g c in
    let m = below_moved g c in
    let e = forest_moved s g cs h.1 w.1 in
    let d = forest_moved s g (drop (below c) cs) (Formed-drop s cs (below c) h.1) (each_drop (Within g) (below c) cs w.1) in
    let t = tree_moved s g c (forest s cs) h.0.fine w.0 in
    let enough : arity (moved g c) ≤ length (forest (cut s g) (map (moved g) cs)) = rw (e, n) h.0.enough in
    let inside : below (moved g c) ≤ length (map (moved g) cs) = rw (m, length-map cs (moved g)) h.0.inside in
    let skips : forest (cut s g) (drop (below (moved g c)) (map (moved g) cs)) ≡ drop (arity (moved g c)) (forest (cut s g) (map (moved g) cs)) = rw (m, n, e, drop-map (moved g) (below c) cs, d) h.0.skips in
    let shallow : depth (tree_at (cut s g) (moved g c) (forest (cut s g) (map (moved g) cs))) ≤ 128 = rw (e, t) h.0.shallow in
    let proper : IsProper (tree_at (cut s g) (moved g c) (forest (cut s g) (map (moved g) cs))) = rw (e, t) h.0.proper in
    (record { fine = fine_moved s g c i h.0.fine w.0; enough = enough; inside = inside; shallow = shallow; proper = proper; skips = skips }, formed_moved s g cs i h.1 w.1)

-- the cells of a part, moved to where what they point into begins
pub record Part (s : Store) (g : Reach) (cs : List Cell) : Type 0 where
  pub inside : Inside s g
  pub input : g.input.start ≤ g.input.end
  pub side : g.side.start ≤ g.side.end
  pub wides : g.wides.start ≤ g.wides.end
  pub formed : Formed (cut s g) (map (moved g) cs)
  pub means : forest (cut s g) (map (moved g) cs) ≡ forest s cs

pub moved_part_of : (s : Store) (cs : List Cell) → Formed s cs → Part s (reach_of cs) cs
moved_part_of s cs h =
    let none : Reach = record { input = nothing; side = nothing; wides = nothing } in
    let g = reach_from none cs in
    let i = from_inside s none cs h (record { input = omega arith; side = omega arith; wides = omega arith }) in
    let inside : Inside s (reach_of cs) = record { input = i.input; side = i.side; wides = i.wides } in
    let w = from_within (reach_of cs) none cs (settled_covers g) in
    record {
      inside = inside;
      input = omega arith;
      side = omega arith;
      wides = omega arith;
      formed = formed_moved s (reach_of cs) cs inside h w;
      means = forest_moved s (reach_of cs) cs h w;
    }
