-- A tree has no image in JSON exactly where some key is of a kind that is none.
use Rattle.std.specs.Prelude.{◌⊎◌}
use Rattle.std.proofs.Common.{◌≡◌, None, refl, Option, Some, sym, inl, inr, option_map, ap, []}
use Rattle.sw_tree.specs.Tree.{Tree, null, truth, int, text, bytes, list, map, Trees, Entries, no_trees, tree, no_entries, entry}
use Rattle.sw_tree.specs.Image.{key_image, next_tree, next_entry, value_image, trees_image, entries_image}
use Rattle.sw_tree.specs.Laws.Options.{none_some}
use Rattle.sw_json.specs.Images.{IsOtherKey, HasOtherKey, HaveOtherKey, EntriesHaveOtherKey}
use Rattle.sw_json.specs.Text.{text_of, json_text}

-- ---- such a key has no image, nor has what it is in
key_none : (t : Tree) → IsOtherKey t → key_image t ≡ None
key_none null h = refl
key_none (truth b) h = absurd h
key_none (int n) h = absurd h
key_none (text s) h = absurd h
key_none (bytes s) h = refl
key_none (list ts) h = refl
key_none (map es) h = refl

next_none : (o : Option Tree) (os : Option Trees) → (o ≡ None) ⊎ (os ≡ None) → next_tree o os ≡ None
next_none None os h = refl
next_none (Some t) None h = refl
next_none (Some t) (Some ts) (inl e) = absurd (none_some (sym e))
next_none (Some t) (Some ts) (inr e) = absurd (none_some (sym e))

entry_none : (o p : Option Tree) (os : Option Entries) → (o ≡ None) ⊎ ((p ≡ None) ⊎ (os ≡ None)) → next_entry o p os ≡ None
entry_none None p os h = refl
entry_none (Some k) None os h = refl
entry_none (Some k) (Some v) None h = refl
entry_none (Some k) (Some v) (Some es) (inl e) = absurd (none_some (sym e))
entry_none (Some k) (Some v) (Some es) (inr (inl e)) = absurd (none_some (sym e))
entry_none (Some k) (Some v) (Some es) (inr (inr e)) = absurd (none_some (sym e))

mutual
  value_none : (t : Tree) → HasOtherKey t → value_image t ≡ None
  value_none null h = absurd h
  value_none (truth b) h = absurd h
  value_none (int n) h = absurd h
  value_none (text s) h = absurd h
  value_none (bytes s) h = absurd h
  value_none (list ts) h = ap (option_map list) (trees_none ts h)
  value_none (map es) h = ap (option_map map) (entries_none es h)

  trees_none : (ts : Trees) → HaveOtherKey ts → trees_image ts ≡ None
  trees_none no_trees h = absurd h
  trees_none (tree t ts) (inl h) = next_none (value_image t) (trees_image ts) (inl (value_none t h))
  trees_none (tree t ts) (inr h) = next_none (value_image t) (trees_image ts) (inr (trees_none ts h))

  entries_none : (es : Entries) → EntriesHaveOtherKey es → entries_image es ≡ None
  entries_none no_entries h = absurd h
  entries_none (entry k v es) (inl h) = entry_none (key_image k) (value_image v) (entries_image es) (inl (key_none k h))
  entries_none (entry k v es) (inr (inl h)) = entry_none (key_image k) (value_image v) (entries_image es) (inr (inl (value_none v h)))
  entries_none (entry k v es) (inr (inr h)) = entry_none (key_image k) (value_image v) (entries_image es) (inr (inr (entries_none es h)))

-- ---- what has none has such a key
-- where there is no image there is such a key
abbrev Blames : {A : Type 0} → Type 0 → Option A → Type 0
Blames P None = P
Blames P (Some x) = Unit {0}

key_blames : (t : Tree) → Blames (IsOtherKey t) (key_image t)
key_blames null = tt
key_blames (truth b) = tt
key_blames (int n) = tt
key_blames (text s) = tt
key_blames (bytes s) = tt
key_blames (list ts) = tt
key_blames (map es) = tt

map_blames : {A B : Type 0} (P : Type 0) (f : A → B) (o : Option A) → Blames P o → Blames P (option_map f o)
map_blames P f None h = h
map_blames P f (Some x) h = tt

next_blames : (P Q : Type 0) (o : Option Tree) (os : Option Trees) → Blames P o → Blames Q os → Blames (P ⊎ Q) (next_tree o os)
next_blames P Q None os h k = inl h
next_blames P Q (Some t) None h k = inr k
next_blames P Q (Some t) (Some ts) h k = tt

entry_blames : (P Q R : Type 0) (o p : Option Tree) (os : Option Entries) → Blames P o → Blames Q p → Blames R os → Blames (P ⊎ (Q ⊎ R)) (next_entry o p os)
entry_blames P Q R None p os h k l = inl h
entry_blames P Q R (Some t) None os h k l = inr (inl k)
entry_blames P Q R (Some t) (Some v) None h k l = inr (inr l)
entry_blames P Q R (Some t) (Some v) (Some es) h k l = tt

mutual
  value_blames : (t : Tree) → Blames (HasOtherKey t) (value_image t)
  value_blames null = tt
  value_blames (truth b) = tt
  value_blames (int n) = tt
  value_blames (text s) = tt
  value_blames (bytes s) = tt
  value_blames (list ts) = map_blames (HaveOtherKey ts) list (trees_image ts) (trees_blame ts)
  value_blames (map es) = map_blames (EntriesHaveOtherKey es) map (entries_image es) (entries_blame es)

  trees_blame : (ts : Trees) → Blames (HaveOtherKey ts) (trees_image ts)
  trees_blame no_trees = tt
  trees_blame (tree t ts) = next_blames (HasOtherKey t) (HaveOtherKey ts) (value_image t) (trees_image ts) (value_blames t) (trees_blame ts)

  entries_blame : (es : Entries) → Blames (EntriesHaveOtherKey es) (entries_image es)
  entries_blame no_entries = tt
  entries_blame (entry k v es) =
      entry_blames (IsOtherKey k) (HasOtherKey v) (EntriesHaveOtherKey es) (key_image k) (value_image v) (entries_image es) (key_blames k) (value_blames v) (entries_blame es)

blamed : {A : Type 0} (P : Type 0) (o : Option A) → Blames P o → o ≡ None → P
blamed P None h e = h
blamed P (Some x) h e = absurd (none_some (sym e))

pub unprinted : (t : Tree) → json_text t ≡ None → HasOtherKey t
unprinted t e = blamed (HasOtherKey t) (json_text t) (map_blames (HasOtherKey t) (λ i. text_of i []) (value_image t) (value_blames t)) e

pub refused_key : (t : Tree) → HasOtherKey t → json_text t ≡ None
refused_key t h = ap (option_map (λ i. text_of i [])) (value_none t h)
