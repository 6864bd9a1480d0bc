-- The laws of trees by themselves.
use Rattle.std.specs.Prelude.{List, Option, Some, None, ◌++◌, ◌≡◌, ℕ, ◌+◌, length, [], ◌∷◌, Err, true, ◌&&◌, option_map, is_none, Ok, Bool, false}
use Rattle.std.specs.Option.{option_or}
use Rattle.std.proofs.Common.{subst, refl, ap, sym, ◌∙◌}
use Rattle.std.proofs.lemmas.Bool.{and_parts}
use Rattle.sw_tree.specs.Image.{key_image, value_image, trees_image, entries_image, next_tree, next_entry}
use Rattle.sw_tree.specs.Kinds.{has}
use Rattle.sw_tree.specs.Meaning.{Meaning}
use Rattle.sw_tree.specs.Meaning as meaning
use Rattle.sw_tree.specs.Nodes.{HasKind, kinds, trees_kinds, entries_kinds}
use Rattle.sw_tree.specs.Proper.{IsNodeTree}
use Rattle.sw_tree.specs.Tree.{Tree, null, truth, int, text, bytes, list, map, Trees, no_trees, tree, Entries, no_entries, entry, size, kind_of}
use Rattle.sw_tree.specs.declared.mode.Mode.{Mode}
use Rattle.sw_tree.specs.declared.mode.WireKind.{WireKind}
use Rattle.sw_tree.specs.declared.mode.WireKind.TheVariants.{Json, Compact}
use Rattle.sw_tree.specs.declared.mode.Place.{Place}
use Rattle.sw_tree.specs.declared.mode.Place.TheVariants.{Value, Key}
use Rattle.sw_tree.specs.declared.mode.Kind.{Kind}
use Rattle.sw_tree.specs.declared.mode.Kind.TheVariants as kind
use Rattle.sw_tree.specs.declared.fail.DeError.TheVariants as fail
use Rattle.sw_tree.specs.Foreign.{Foreign, further, foreign_key, foreign, foreign_items, foreign_entries, is_text, is_plain, are_plain, are_plain_keyed}
use Rattle.sw_tree.specs.Laws.Nodes.{kind_before, kind_behind, kinds-size}
use Rattle.sw_tree.specs.Laws.Foreign.{plain_foreign, none_foreign}
use Rattle.sw_check.specs.Facts.{claims_at}
use Rattle.sw_elem.specs.Facts.{stands, all_but_bytes, any_facts}
use Rattle.sw_elem.specs.Foreign.{taken, number_of, any_reads, any_spot, any_writes, IsAny}
use Rattle.sw_elem.specs.Statements.{HasSpotKinds}
use Rattle.sw_elem.specs.Lawful.{LawfulLeaf, same_norm}
use Rattle.sw_elem.specs.Laws.Leaf.{IsBack, IsLeaf, everywhere_read, keeps_leaf}

-- ---- such a node has the kind that is said of it
-- a node among those of these kinds
abbrev IsAmong : List Kind → Option Foreign → Type 0
IsAmong ks None = Unit {0}
IsAmong ks (Some f) = HasKind ks f.number f.kind

before : (ks ls : List Kind) (o : Option Foreign) → IsAmong ks o → IsAmong (ks ++ ls) o
before ks ls None h = tt
before ks ls (Some f) h = kind_before ks ls f.number f.kind h

behind : (ks ls : List Kind) (n : ℕ) (o : Option Foreign) → length ks ≡ n → IsAmong ls o → IsAmong (ks ++ ls) (further n o)
behind ks ls n None e h = tt
behind ks ls n (Some f) e h = subst (λ (i : ℕ). HasKind (ks ++ ls) (i + f.number) f.kind) e (kind_behind ks ls f.number f.kind h)

either : (ks : List Kind) (a b : Option Foreign) → IsAmong ks a → IsAmong ks b → IsAmong ks (option_or a b)
either ks None b h k = k
either ks (Some f) b h k = h

key_among : (k : Tree) → IsAmong (kinds k) (foreign_key k)
key_among null = refl
key_among (truth b) = refl
key_among (int n) = refl
key_among (text s) = tt
key_among (bytes s) = refl
key_among (list ts) = refl
key_among (map es) = refl

mutual
  foreign_among : (t : Tree) → IsAmong (kinds t) (foreign t)
  foreign_among null = tt
  foreign_among (truth b) = tt
  foreign_among (int n) = tt
  foreign_among (text s) = tt
  foreign_among (bytes s) = refl
  foreign_among (list ts) = behind (kind.List ∷ []) (trees_kinds ts) 1 (foreign_items ts) refl (items_among ts)
  foreign_among (map es) = behind (kind.Map ∷ []) (entries_kinds es) 1 (foreign_entries es) refl (entries_among es)

  items_among : (ts : Trees) → IsAmong (trees_kinds ts) (foreign_items ts)
  items_among no_trees = tt
  items_among (tree t ts) =
      either (kinds t ++ trees_kinds ts) (foreign t) (further (size t) (foreign_items ts))
      (before (kinds t) (trees_kinds ts) (foreign t) (foreign_among t))
      (behind (kinds t) (trees_kinds ts) (size t) (foreign_items ts) (kinds-size t) (items_among ts))

  entries_among : (es : Entries) → IsAmong (entries_kinds es) (foreign_entries es)
  entries_among no_entries = tt
  entries_among (entry k v es) =
      let rest = kinds v ++ entries_kinds es in
      let values : IsAmong rest (option_or (foreign v) (further (size v) (foreign_entries es))) =
      either rest (foreign v) (further (size v) (foreign_entries es))
      (before (kinds v) (entries_kinds es) (foreign v) (foreign_among v))
      (behind (kinds v) (entries_kinds es) (size v) (foreign_entries es) (kinds-size v) (entries_among es)) in
      either (kinds k ++ rest) (foreign_key k) (further (size k) (option_or (foreign v) (further (size v) (foreign_entries es))))
      (before (kinds k) rest (foreign_key k) (key_among k))
      (behind (kinds k) rest (size k) (option_or (foreign v) (further (size v) (foreign_entries es))) (kinds-size k) values)

refused_kind : (t : Tree) (o : Option Foreign) (k : Kind) → IsAmong (kinds t) o → taken t o ≡ Err (fail.InvalidType k) → HasKind (kinds t) (number_of o) k
refused_kind t None k h p = absurd (cc)
refused_kind t (Some f) k h p = let e : f.kind ≡ k = cc in subst (HasKind (kinds t) f.number) e h

any_spots : (m : Mode) → HasSpotKinds any_reads any_spot m
any_spots m t k p = refused_kind t (foreign t) k (foreign_among t) p

-- ---- a tree without such a node is its own image
text_image : (k : Tree) → is_text k ≡ true → key_image k ≡ Some k
text_image (text s) h = refl
text_image _ h = absurd (cc)

mutual
  any_image : (t : Tree) → is_plain t ≡ true → value_image t ≡ Some t
  any_image null h = refl
  any_image (truth b) h = refl
  any_image (int n) h = refl
  any_image (text s) h = refl
  any_image (bytes s) h = absurd (cc)
  any_image (list ts) h = ap (option_map list) (any_images ts h)
  any_image (map es) h = ap (option_map map) (any_entries es h)

  any_images : (ts : Trees) → are_plain ts ≡ true → trees_image ts ≡ Some ts
  any_images no_trees h = refl
  any_images (tree t ts) h = let q = and_parts (is_plain t) (are_plain ts) h in λ j. next_tree (any_image t q.0 j) (any_images ts q.1 j)

  any_entries : (es : Entries) → are_plain_keyed es ≡ true → entries_image es ≡ Some es
  any_entries no_entries h = refl
  any_entries (entry k v es) h =
      let q = and_parts (is_text k) (is_plain v && are_plain_keyed es) h in
      let r = and_parts (is_plain v) (are_plain_keyed es) q.1 in
      λ j. next_entry (text_image k q.0 j) (any_image v r.0 j) (any_entries es r.1 j)

none_is : (o : Option Foreign) → is_none o ≡ true → o ≡ None
none_is None h = refl
none_is (Some f) h = absurd (cc)

any_taken : (t : Tree) → is_plain t ≡ true → taken t (foreign t) ≡ Ok (meaning.tree t)
any_taken t h = ap (taken t) (none_is (foreign t) (sym (plain_foreign t) ∙ h))

any_claimed : (t : Tree) → is_plain t ≡ true → (w : WireKind) (p : Place) (b : Bool) → claims_at (stands false false) (record { wire = w; place = p; buffered = b }) ≡ true →
    IsBack any_reads (record { wire = w; place = p; buffered = b }) t (meaning.tree t)
any_claimed t h Compact p b c = (t, refl, any_taken t h)
any_claimed t h Json Value b c = (t, any_image t h, any_taken t h)
any_claimed t h Json Key true c = absurd (cc)
any_claimed t h Json Key false c = absurd (cc)

-- ---- the laws
any_node : Meaning → Tree
any_node (meaning.tree t) = t
any_node v = null

any_written : (m : Mode) (v : Meaning) → any_writes m v ≡ Ok (any_node v)
unfolding any_node
any_written m (meaning.tree t) = refl
any_written m _ = refl

any_back : (m : Mode) → claims_at (stands false false) m ≡ true → (v : Meaning) → IsAny v → IsBack any_reads m (any_node v) v
unfolding any_node
any_back m c (meaning.tree t) h = any_claimed t h.0 m.wire m.place m.buffered c
any_back m c _ h = absurd h

any_kind : (t : Tree) → is_plain t ≡ true → has all_but_bytes (kind_of t) ≡ true
any_kind (bytes s) h = absurd (cc)
any_kind null h = refl
any_kind (truth b) h = refl
any_kind (int n) h = refl
any_kind (text s) h = refl
any_kind (list ts) h = refl
any_kind (map es) h = refl

any_is : (v : Meaning) → IsAny v → has all_but_bytes (kind_of (any_node v)) ≡ true
unfolding any_node
any_is (meaning.tree t) h = any_kind t h.0
any_is _ h = absurd h

any_nodes : (v : Meaning) → IsAny v → IsNodeTree (any_node v)
unfolding any_node
any_nodes (meaning.tree t) h = h.1
any_nodes _ h = absurd h

none_taken : (t : Tree) (o : Option Foreign) (v : Meaning) → taken t o ≡ Ok v → o ≡ None
none_taken t None v p = refl
none_taken t (Some f) v p = absurd (cc)

any_read : (t : Tree) (v : Meaning) → taken t (foreign t) ≡ Ok v → has all_but_bytes (kind_of t) ≡ true
any_read t v p = any_kind t (none_foreign t (none_taken t (foreign t) v p))

any_leaf : IsLeaf IsAny any_writes any_reads any_spot any_facts any_node
any_leaf = record {
  writing = any_written;
  back = any_back;
  written = any_is;
  nodes = any_nodes;
  read = λ m t v p. everywhere_read all_but_bytes (stands false false) m (kind_of t) (any_read t v p);
  spots = any_spots;
}

pub any_keeps : LawfulLeaf IsAny any_writes any_reads any_spot any_facts same_norm (Unit {0})
any_keeps = keeps_leaf IsAny any_writes any_reads any_spot any_facts any_node any_leaf
