-- The law of trees by themselves.
use Rattle.std.specs.Prelude.{ℕ, ◌<◌, Option, Some, None, ◌+◌, ◌≡◌, Ok, Err}
use Rattle.std.specs.Option.{option_or}
use Rattle.std.proofs.Common.{arith, subst, refl}
use Rattle.sw_tree.specs.Meaning.{Meaning}
use Rattle.sw_tree.specs.Meaning as meaning
use Rattle.sw_tree.specs.Tree.{Tree, null, truth, int, text, bytes, list, map, size, Trees, no_trees, tree, Entries, no_entries, entry, trees_size, entries_size}
use Rattle.sw_tree.specs.declared.fail.DeError.{DeError}
use Rattle.sw_tree.specs.Proper.{IsNodeTree}
use Rattle.sw_tree.specs.Foreign.{Foreign, further, foreign_key, foreign, foreign_items, foreign_entries}
use Rattle.sw_tree.specs.Laws.Foreign.{none_foreign}
use Rattle.sw_elem.specs.Equations.{LawfulReading}
use Rattle.sw_elem.specs.Foreign.{taken, IsAny, number_of, any_reads, any_spot}

-- ---- such a node is one of the tree's
abbrev Within : ℕ → Option Foreign → Type 0
Within n None = Unit {0}
Within n (Some f) = f.number < n

further_within : (k n : ℕ) (o : Option Foreign) → Within n o → Within (k + n) (further k o)
further_within k n None h = tt
further_within k n (Some f) h = omega arith

wider : (m n : ℕ) (o : Option Foreign) → Within m o → m < n + 1 → Within n o
wider m n None h w = tt
wider m n (Some f) h w = omega arith

or_within : (n : ℕ) (a b : Option Foreign) → Within n a → Within n b → Within n (option_or a b)
or_within n None b h k = k
or_within n (Some f) b h k = h

key_within : (k : Tree) → Within (size k) (foreign_key k)
key_within null = omega arith
key_within (truth b) = omega arith
key_within (int n) = omega arith
key_within (text s) = tt
key_within (bytes s) = omega arith
key_within (list ts) = omega arith
key_within (map es) = omega arith

mutual
  foreign_within : (t : Tree) → Within (size t) (foreign t)
  foreign_within null = tt
  foreign_within (truth b) = tt
  foreign_within (int n) = tt
  foreign_within (text s) = tt
  foreign_within (bytes s) = omega arith
  foreign_within (list ts) = wider (1 + trees_size ts) (size (list ts)) (further 1 (foreign_items ts)) (further_within 1 (trees_size ts) (foreign_items ts) (items_within ts)) (omega arith)
  foreign_within (map es) = wider (1 + entries_size es) (size (map es)) (further 1 (foreign_entries es)) (further_within 1 (entries_size es) (foreign_entries es) (entries_within es)) (omega arith)

  items_within : (ts : Trees) → Within (trees_size ts) (foreign_items ts)
  items_within no_trees = tt
  items_within (tree t ts) =
      or_within (size t + trees_size ts) (foreign t) (further (size t) (foreign_items ts))
      (wider (size t) (size t + trees_size ts) (foreign t) (foreign_within t) (omega arith))
      (further_within (size t) (trees_size ts) (foreign_items ts) (items_within ts))

  entries_within : (es : Entries) → Within (entries_size es) (foreign_entries es)
  entries_within no_entries = tt
  entries_within (entry k v es) =
      let n = size k + size v + entries_size es in
      let behind = further (size v) (foreign_entries es) in
      let values : Within (size v + entries_size es) (option_or (foreign v) behind) =
      or_within (size v + entries_size es) (foreign v) behind
      (wider (size v) (size v + entries_size es) (foreign v) (foreign_within v) (omega arith))
      (further_within (size v) (entries_size es) (foreign_entries es) (entries_within es)) in
      or_within n (foreign_key k) (further (size k) (option_or (foreign v) behind))
      (wider (size k) n (foreign_key k) (key_within k) (omega arith))
      (wider (size k + (size v + entries_size es)) n (further (size k) (option_or (foreign v) behind)) (further_within (size k) (size v + entries_size es) (option_or (foreign v) behind) values) (omega arith))

taken_ok : (t : Tree) (o : Option Foreign) (v : Meaning) → IsNodeTree t → foreign t ≡ o → taken t o ≡ Ok v → IsAny v
taken_ok t None v n e p = let k : meaning.tree t ≡ v = cc in subst IsAny k (none_foreign t e, n)
taken_ok t (Some f) v n e p = absurd (cc)

inside : (t : Tree) (o : Option Foreign) (e : DeError) (n : ℕ) → Within n o → taken t o ≡ Err e → number_of o < n
inside t None e n h p = absurd (cc)
inside t (Some f) e n h p = h

pub any_lawful : LawfulReading IsAny any_reads any_spot
any_lawful = record {
  meanings = λ m t v n p. taken_ok t (foreign t) v n refl p;
  inside = λ m t e p. inside t (foreign t) e (size t) (foreign_within t) p;
}
