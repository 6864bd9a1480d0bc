-- Trees whose keys are all texts and that have no byte string, and what other trees have.
use Rattle.std.specs.Prelude.{Bool, true, false, ◌&&◌, ℕ, ◌+◌, Option, option_map, Some, None}
use Rattle.std.specs.Option.{option_or}
use Rattle.sw_tree.specs.Tree.{Tree, text, null, truth, int, bytes, list, map, Trees, no_trees, tree, Entries, no_entries, entry, kind_of, size}
use Rattle.sw_tree.specs.declared.mode.Kind.{Kind}
use Rattle.sw_tree.specs.declared.mode.Kind.TheVariants as kind

abbrev pub is_text : Tree → Bool
is_text (text s) = true
is_text _ = false

abbrev mutual
  pub is_plain : Tree → Bool
  is_plain null = true
  is_plain (truth b) = true
  is_plain (int n) = true
  is_plain (text s) = true
  is_plain (bytes s) = false
  is_plain (list ts) = are_plain ts
  is_plain (map es) = are_plain_keyed es

  pub are_plain : Trees → Bool
  are_plain no_trees = true
  are_plain (tree t ts) = is_plain t && are_plain ts

  pub are_plain_keyed : Entries → Bool
  are_plain_keyed no_entries = true
  are_plain_keyed (entry k v es) = is_text k && (is_plain v && are_plain_keyed es)

-- a node that isn't taken: its number, from 0 in preorder, a key before its value, and its kind
pub record Foreign : Type 0 where
  pub number : ℕ
  pub kind : Kind

-- a number that counts from a node further on
abbrev pub further : ℕ → Option Foreign → Option Foreign
further k o = option_map (λ (f : Foreign). record { number = k + f.number; kind = f.kind }) o

abbrev pub untexted : Kind → Option Foreign
untexted kind.Text = None
untexted k = Some (record { number = 0; kind = k })

-- a key that is no text
abbrev pub foreign_key : Tree → Option Foreign
foreign_key t = untexted (kind_of t)

-- the first node that is a byte string, or a key that is no text
abbrev mutual
  pub foreign : Tree → Option Foreign
  foreign null = None
  foreign (truth b) = None
  foreign (int n) = None
  foreign (text s) = None
  foreign (bytes s) = Some (record { number = 0; kind = kind.Bytes })
  foreign (list ts) = further 1 (foreign_items ts)
  foreign (map es) = further 1 (foreign_entries es)

  pub foreign_items : Trees → Option Foreign
  foreign_items no_trees = None
  foreign_items (tree t ts) = option_or (foreign t) (further (size t) (foreign_items ts))

  pub foreign_entries : Entries → Option Foreign
  foreign_entries no_entries = None
  foreign_entries (entry k v es) = option_or (foreign_key k) (further (size k) (option_or (foreign v) (further (size v) (foreign_entries es))))
