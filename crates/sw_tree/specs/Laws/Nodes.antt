-- What is said of a node by its number stays so in a larger tree, with trees before it or behind.
use Rattle.std.specs.Prelude.{◌≡◌, Some, ◌<◌, length, List, [], ◌∷◌, ◌++◌, ◌+◌, ℕ, false, suc}
use Rattle.std.proofs.Common.{ap, refl, ◌∙◌, arith, length-append, subst}
use Rattle.std.proofs.lemmas.List.{get_or_append_left, get_or-append-add}
use Rattle.std.proofs.lemmas.Option.{slice_get_within, slice_get-get_or, get_or_from_slice_get}
use Rattle.sw_tree.specs.Nodes.{kinds, HasKind, trees_kinds, entries_kinds, IsNoteIn}
use Rattle.sw_tree.specs.Placed.{Note, moved}
use Rattle.sw_tree.specs.Steps.{Each}
use Rattle.sw_tree.specs.Tree.{Tree, kind_of, Trees, no_trees, items, Entries, no_entries, entry, pairs, by_turns, size, null, truth, int, text, bytes, list, map, tree, trees_size, entries_size}
use Rattle.sw_tree.specs.Tree as node
use Rattle.sw_tree.specs.declared.mode.Kind.{Kind}
use Rattle.sw_tree.specs.declared.fail.DeError.{DeError}
use Rattle.sw_tree.specs.declared.fail.DeError.TheVariants as fail

-- ---- how many there are

-- as many kinds as the tree has nodes
mutual
  pub kinds-size : (t : Tree) → length (kinds t) ≡ size t
  kinds-size null = refl
  kinds-size (truth b) = refl
  kinds-size (int n) = refl
  kinds-size (text s) = refl
  kinds-size (bytes s) = refl
  kinds-size (list ts) = ap suc (trees_kinds-size ts)
  kinds-size (map es) = ap suc (entries_kinds-size es)

  pub trees_kinds-size : (ts : Trees) → length (trees_kinds ts) ≡ trees_size ts
  trees_kinds-size no_trees = refl
  trees_kinds-size (tree t ts) = omega (arith, length-append (kinds t) (trees_kinds ts), kinds-size t, trees_kinds-size ts)

  pub entries_kinds-size : (es : Entries) → length (entries_kinds es) ≡ entries_size es
  entries_kinds-size no_entries = refl
  entries_kinds-size (entry k v es) =
      omega (arith, length-append (kinds k) (kinds v ++ entries_kinds es), length-append (kinds v) (entries_kinds es), kinds-size k, kinds-size v, entries_kinds-size es)

pub IsNoteIn-below : (t : Tree) (n : Note) → IsNoteIn (kinds t) n → n.number < size t
IsNoteIn-below t n h = omega (arith, h.below, kinds-size t)

-- ---- a tree's own node
-- it has the number 0
pub own_kind : (t : Tree) (k : Kind) → kind_of t ≡ k → HasKind (kinds t) 0 k
own_kind node.null k h = ap Some h
own_kind (node.truth b) k h = ap Some h
own_kind (node.int n) k h = ap Some h
own_kind (node.text s) k h = ap Some h
own_kind (node.bytes s) k h = ap Some h
own_kind (node.list ts) k h = ap Some h
own_kind (node.map es) k h = ap Some h

root-below : (t : Tree) → 0 < length (kinds t)
root-below t = slice_get_within (kinds t) 0 (kind_of t) (own_kind t (kind_of t) refl)

-- ---- trees one after another
-- the kinds of the nodes of trees one after another
abbrev pub all_kinds : List Tree → List Kind
all_kinds [] = []
all_kinds (t ∷ ts) = kinds t ++ all_kinds ts

pub items-kinds : (ts : Trees) → trees_kinds ts ≡ all_kinds (items ts)
items-kinds no_trees = refl
items-kinds (node.tree t ts) = ap (λ ks. kinds t ++ ks) (items-kinds ts)

pub pairs-kinds : (es : Entries) → entries_kinds es ≡ all_kinds (by_turns (pairs es))
pairs-kinds no_entries = refl
pairs-kinds (entry k v es) = ap (λ ks. kinds k ++ (kinds v ++ ks)) (pairs-kinds es)

-- ---- kinds one after another
module _ (xs ys : List Kind) where
  pub kind_before : (n : ℕ) (k : Kind) → HasKind xs n k → HasKind (xs ++ ys) n k
  kind_before n k h =
      let b : n < length xs = slice_get_within xs n k h in
      let c : n < length (xs ++ ys) = omega (arith, b, length-append xs ys) in
      slice_get-get_or (xs ++ ys) n k c ∙ ap Some (get_or_append_left xs ys k n b ∙ get_or_from_slice_get xs n k k h)

  pub kind_behind : (n : ℕ) (k : Kind) → HasKind ys n k → HasKind (xs ++ ys) (length xs + n) k
  kind_behind n k h =
      let b : n < length ys = slice_get_within ys n k h in
      let c : length xs + n < length (xs ++ ys) = omega (arith, b, length-append xs ys) in
      slice_get-get_or (xs ++ ys) (length xs + n) k c ∙ ap Some (get_or-append-add xs ys n k ∙ get_or_from_slice_get ys n k k h)

-- ---- what is said of a note, and stays so in a larger tree
-- a refusal, as a note of the node that has that number
abbrev pub refusal : DeError → ℕ → Note
refusal e n = record { error = e; number = n; inside = false }

-- the note, so many nodes further on
abbrev pub on : ℕ → Note → Note
on k n = record { error = n.error; number = k + n.number; inside = n.inside }

-- a node may be refused so for itself
abbrev pub IsOwn : Tree → DeError → Type 0
IsOwn t e = (k : Kind) → e ≡ fail.InvalidType k → kind_of t ≡ k

-- it holds on with nodes behind, and before, and of a node that is refused for itself
pub record IsStable (Q : List Kind → Note → Type 0) : Type 0 where
  pub left : (xs ys : List Kind) (n : Note) → Q xs n → Q (xs ++ ys) n
  pub right : (xs ys : List Kind) (n : Note) → Q ys n → Q (xs ++ ys) (on (length xs) n)
  pub root : (t : Tree) (e : DeError) → IsOwn t e → Q (kinds t) (refusal e 0)

-- the node is one of these
abbrev pub IsBelow : List Kind → Note → Type 0
IsBelow ks n = n.number < length ks

-- it has the kind that the note says
abbrev pub IsOfKind : List Kind → Note → Type 0
IsOfKind ks n = (k : Kind) → n.error ≡ fail.InvalidType k → HasKind ks n.number k

pub below-stable : IsStable IsBelow
below-stable = record {
  left = λ xs ys n h. omega (arith, h, length-append xs ys);
  right = λ xs ys n h. omega (arith, h, length-append xs ys);
  root = λ t e h. root-below t;
}

pub kind-stable : IsStable IsOfKind
kind-stable = record {
  left = λ xs ys n h k e. kind_before xs ys n.number k (h k e);
  right = λ xs ys n h k e. kind_behind xs ys n.number k (h k e);
  root = λ t e h k i. own_kind t k (h k i);
}

pub note-stable : IsStable IsNoteIn
note-stable = record {
  left = λ xs ys n h. record { below = below-stable.left xs ys n h.below; kind = λ i k e. kind_before xs ys n.number k (h.kind i k e) };
  right = λ xs ys n h. record { below = below-stable.right xs ys n h.below; kind = λ i k e. kind_behind xs ys n.number k (h.kind i k e) };
  root = λ t e h. record { below = root-below t; kind = λ i k p. own_kind t k (h k p) };
}

module _ (Q : List Kind → Note → Type 0) (s : IsStable Q) where
  -- behind a tree
  pub behind : (t : Tree) (ks : List Kind) (n : Note) → Q ks n → Q (kinds t ++ ks) (on (size t) n)
  behind t ks n h = subst (λ (l : ℕ). Q (kinds t ++ ks) (on l n)) (kinds-size t) (s.right (kinds t) ks n h)

  -- the same of several notes
  pub all_before : (xs ys : List Kind) (ns : List Note) → Each (Q xs) ns → Each (Q (xs ++ ys)) ns
  all_before xs ys [] h = tt
  all_before xs ys (n ∷ ns) h = (s.left xs ys n h.0, all_before xs ys ns h.1)

  pub all_behind : (t : Tree) (ks : List Kind) (ns : List Note) → Each (Q ks) ns → Each (Q (kinds t ++ ks)) (moved (size t) ns)
  all_behind t ks [] h = tt
  all_behind t ks (n ∷ ns) h = (behind t ks n h.0, all_behind t ks ns h.1)
