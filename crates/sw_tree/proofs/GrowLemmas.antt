-- What cells point into grows, and what they mean stays.
use Rattle.std.proofs.Common.{ℕ, ℤ, pos, zero, suc, ◌+◌, ◌-◌, ◌≤◌, ◌<◌, ◌≡◌, List, [], ◌∷◌, ◌++◌, length, take, drop, get_or, refl, sym, ap, subst, arith, length-append, length-drop}
use Rattle.std.proofs.lemmas.List.{drop-append-le, take-append-le}
use Rattle.std.specs.Prelude.{slice_range}
use Rattle.std.specs.Str.{IsUtf8}
use Rattle.sw_tree.specs.Tree as tree
use Rattle.sw_tree.specs.Tree.{Tree, depth, trees, trees_depth}
use Rattle.sw_tree.specs.Proper.{IsProper}
use Rattle.sw_tree.specs.declared.cell.Cell.{Cell}
use Rattle.sw_tree.specs.declared.cell.Span.{Span}
use Rattle.sw_tree.specs.declared.cell.Cell.TheVariants.{Null, Bool, Natural, Negative, Wide, Text, Copied, Bytes, CopiedBytes, List as Items, Map}
use Rattle.sw_tree.specs.declared.builder.Open.{Open}
use Rattle.sw_tree.specs.Inner.Cells.{Store, forest, arity, below, tree_at, part, Formed, IsFine, IsText, IsPart}
use Rattle.sw_tree.specs.Inner.Builder.{Segment, Stacked, open_of, done_of}
use Rattle.sw_tree.proofs.CellLemmas.{Formed-drop}

-- with more beside the input
abbrev pub grow : Store → List ℕ → List ℤ → Store
grow s m w = record { input = s.input; side = s.side ++ m; wides = s.wides ++ w }

range-append : (s m : List ℕ) (a b : ℕ) → a ≤ b → b ≤ length s → slice_range (s ++ m) a b ≡ slice_range s a b
range-append s m a b le fit =
    let d : drop a (s ++ m) ≡ drop a s ++ m = drop-append-le a s m (omega arith) in
    let fits : b - a ≤ length (drop a s) = rw (length-drop a s) (omega arith) in
    rw (d, take-append-le (b - a) (drop a s) m fits) refl

part-more : (s m : List ℕ) (p : Span) → IsPart s p → part (s ++ m) p ≡ part s p
part-more s m p h = range-append s m p.start p.end h.ordered h.inside

lies-more : (s m : List ℕ) (p : Span) → IsPart s p → IsPart (s ++ m) p
lies-more s m p h = record { ordered = h.ordered; inside = rw (length-append s m) (omega (arith, h.inside)) }

text-more : (s m : List ℕ) (p : Span) → IsText s p → IsText (s ++ m) p
text-more s m p h = record { lies = lies-more s m p h.lies; utf8 = subst IsUtf8 (sym (part-more s m p h.lies)) h.utf8 }

wide-more : (ws vs : List ℤ) (k : ℕ) (d : ℤ) → k < length ws → get_or (ws ++ vs) k d ≡ get_or ws k d
wide-more [] vs k d lt = absurd (omega arith)
wide-more (w ∷ ws) vs zero d lt = refl
wide-more (w ∷ ws) vs (suc k) d lt = wide-more ws vs k d (omega arith)

pub fine-more : (s : Store) (m : List ℕ) (w : List ℤ) (c : Cell) → IsFine s c → IsFine (grow s m w) c
fine-more s m w (Wide k) h = rw (length-append s.wides w) (omega (arith, h))
fine-more s m w (Copied p) h = text-more s.side m p h
fine-more s m w (CopiedBytes p) h = lies-more s.side m p h
fine-more s m w (Text p) h = h
fine-more s m w (Bytes p) h = h
fine-more s m w Null h = tt
fine-more s m w (Bool b) h = tt
fine-more s m w (Natural z) h = tt
fine-more s m w (Negative z) h = tt
fine-more s m w (Items r) h = tt
fine-more s m w (Map r) h = tt

pub tree_at-more : (s : Store) (m : List ℕ) (w : List ℤ) (c : Cell) (ts : List Tree) → IsFine s c → tree_at (grow s m w) c ts ≡ tree_at s c ts
tree_at-more s m w (Wide k) ts h = ap tree.int (wide-more s.wides w k (pos 0) h)
tree_at-more s m w (Copied p) ts h = ap tree.text (part-more s.side m p h.lies)
tree_at-more s m w (CopiedBytes p) ts h = ap tree.bytes (part-more s.side m p h)
tree_at-more s m w (Text p) ts h = refl
tree_at-more s m w (Bytes p) ts h = refl
tree_at-more s m w Null ts h = refl
tree_at-more s m w (Bool b) ts h = refl
tree_at-more s m w (Natural z) ts h = refl
tree_at-more s m w (Negative z) ts h = refl
tree_at-more s m w (Items r) ts h = refl
tree_at-more s m w (Map r) ts h = refl

pub forest-more : (s : Store) (m : List ℕ) (w : List ℤ) (cs : List Cell) → Formed s cs → forest (grow s m w) cs ≡ forest s cs
unfolding forest
forest-more s m w [] h = refl
forest-more s m w (c ∷ cs) h = rw (forest-more s m w cs h.1, tree_at-more s m w c (forest s cs) h.0.fine) refl

pub Formed-more : (s : Store) (m : List ℕ) (w : List ℤ) (cs : List Cell) → Formed s cs → Formed (grow s m w) cs
Formed-more s m w [] h = tt
Formed-more s m w (c ∷ cs) h =
    let e = forest-more s m w cs h.1 in
    let d = forest-more s m w (drop (below c) cs) (Formed-drop s cs (below c) h.1) in
    let enough : arity c ≤ length (forest (grow s m w) cs) = rw e h.0.enough in
    let skips : forest (grow s m w) (drop (below c) cs) ≡ drop (arity c) (forest (grow s m w) cs) = rw (e, d) h.0.skips in
    let shallow : depth (tree_at (grow s m w) c (forest (grow s m w) cs)) ≤ 128 = rw (e, tree_at-more s m w c (forest s cs) h.0.fine) h.0.shallow in
    let proper : IsProper (tree_at (grow s m w) c (forest (grow s m w) cs)) = rw (e, tree_at-more s m w c (forest s cs) h.0.fine) h.0.proper in
    (record { fine = fine-more s m w c h.0.fine; enough = enough; inside = h.0.inside; shallow = shallow; proper = proper; skips = skips }, Formed-more s m w cs h.1)

Segment-more : (s : Store) (m : List ℕ) (w : List ℤ) (d : ℕ) (cells : List Cell) (kids : ℕ) → Segment s d cells kids → Segment (grow s m w) d cells kids
Segment-more s m w d cells kids h =
    record { formed = Formed-more s m w cells h.formed; counted = rw (forest-more s m w cells h.formed) h.counted; shallow = rw (forest-more s m w cells h.formed) h.shallow }

pub record More (s t : Store) (r : List Open) (cells : List Cell) (kids : ℕ) : Type 0 where
  pub stacked : Stacked t r cells kids
  pub frames : open_of t r cells ≡ open_of s r cells
  pub done : done_of t r cells ≡ done_of s r cells

pub more : (s : Store) (m : List ℕ) (w : List ℤ) (r : List Open) (cells : List Cell) (kids : ℕ) → Stacked s r cells kids → More s (grow s m w) r cells kids
more s m w [] cells kids h = record { stacked = Segment-more s m w 0 cells kids h; frames = refl; done = forest-more s m w cells h.formed }
more s m w (o ∷ outer) cells kids h =
    let rest = more s m w outer (take o.at cells) o.kids h.3 in
    record {
      stacked = (h.0, h.1, Segment-more s m w (length outer + 1) (drop (o.at + 1) cells) kids h.2, rest.stacked);
      frames = rw (forest-more s m w (drop (o.at + 1) cells) h.2.formed, rest.frames) refl;
      done = rest.done;
    }
