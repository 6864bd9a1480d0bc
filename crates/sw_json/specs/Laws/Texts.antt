-- The text of a tree in front of a rest, and the texts of lists and maps by their parts.
use Rattle.std.specs.Prelude.{codes}
use Rattle.std.proofs.Common.{◌≡◌, ℕ, List, ◌++◌, refl, append_assoc, ◌∷◌, true, false, ap, ◌∙◌, [], Option, Some, None, option_map, sym}
use Rattle.sw_tree.specs.Tree.{Tree, null, truth, int, text, bytes, list, map, Trees, no_trees, tree, Entries, no_entries, entry, trees, entries}
use Rattle.sw_tree.specs.Image.{next_tree, value_image, trees_image, next_entry, key_image, entries_image}
use Rattle.sw_json.specs.Text.{text_of, items_text, more_items, entries_text, more_entries, json_text}
use Rattle.sw_json.specs.Inner.Pushed.{joined}
use Rattle.sw_json.specs.Laws.PrintedTexts.{escaped-append}
use Rattle.sw_json.specs.Laws.Pushed.{more_items_text, entry_text, more_entries_text}

regroup : (a b c : List ℕ) → (a ++ b) ++ c ≡ a ++ (b ++ c)
regroup a b c = rw append_assoc refl

mutual
  pub text_of-append : (t : Tree) (k l : List ℕ) → text_of t (k ++ l) ≡ text_of t k ++ l
  text_of-append null k l = refl
  text_of-append (truth true) k l = refl
  text_of-append (truth false) k l = refl
  text_of-append (int n) k l = rw append_assoc refl
  text_of-append (text s) k l = ap (λ r. 34 ∷ r) (escaped-append s (34 ∷ k) l)
  text_of-append (bytes s) k l = refl
  text_of-append (list ts) k l = ap (λ r. 91 ∷ r) (items_text-append ts k l)
  text_of-append (map es) k l = ap (λ r. 123 ∷ r) (entries_text-append es k l)

  pub items_text-append : (ts : Trees) (k l : List ℕ) → items_text ts (k ++ l) ≡ items_text ts k ++ l
  items_text-append no_trees k l = refl
  items_text-append (tree t ts) k l = ap (text_of t) (more_items-append ts k l) ∙ text_of-append t (more_items ts k) l

  pub more_items-append : (ts : Trees) (k l : List ℕ) → more_items ts (k ++ l) ≡ more_items ts k ++ l
  more_items-append no_trees k l = refl
  more_items-append (tree t ts) k l = ap (λ r. 44 ∷ r) (ap (text_of t) (more_items-append ts k l) ∙ text_of-append t (more_items ts k) l)

  pub entries_text-append : (es : Entries) (k l : List ℕ) → entries_text es (k ++ l) ≡ entries_text es k ++ l
  entries_text-append no_entries k l = refl
  entries_text-append (entry key value es) k l =
      ap (λ r. text_of key (58 ∷ text_of value r)) (more_entries-append es k l) ∙ ap (λ r. text_of key (58 ∷ r)) (text_of-append value (more_entries es k) l) ∙ text_of-append key (58 ∷ text_of value (more_entries es k)) l

  pub more_entries-append : (es : Entries) (k l : List ℕ) → more_entries es (k ++ l) ≡ more_entries es k ++ l
  more_entries-append no_entries k l = refl
  more_entries-append (entry key value es) k l =
      ap (λ r. 44 ∷ r) (ap (λ r. text_of key (58 ∷ text_of value r)) (more_entries-append es k l) ∙ ap (λ r. text_of key (58 ∷ r)) (text_of-append value (more_entries es k) l) ∙ text_of-append key (58 ∷ text_of value (more_entries es k)) l)

-- the text of a tree in front of a rest
pub text_of-rest : (t : Tree) (k : List ℕ) → text_of t k ≡ text_of t [] ++ k
text_of-rest t k = text_of-append t [] k

item-joined : (o : Option Tree) (os : Option Trees) → option_map (λ i. text_of i []) (option_map list (next_tree o os)) ≡ joined (Some (codes "[")) (joined (option_map (λ i. text_of i []) o) (option_map (λ i. more_items i []) os))
item-joined None os = refl
item-joined (Some t) None = refl
item-joined (Some t) (Some ts) = ap (λ r. Some (91 ∷ r)) (text_of-rest t (more_items ts []))

pub list_text : (t : Tree) (ts : List Tree) → json_text (list (trees (t ∷ ts))) ≡ joined (Some (codes "[")) (joined (json_text t) (more_items_text ts))
list_text t ts = item-joined (value_image t) (trees_image (trees ts))

more-joined : (o : Option Tree) (os : Option Trees) → option_map (λ i. more_items i []) (next_tree o os) ≡ joined (Some (codes ",")) (joined (option_map (λ i. text_of i []) o) (option_map (λ i. more_items i []) os))
more-joined None os = refl
more-joined (Some t) None = refl
more-joined (Some t) (Some ts) = ap (λ r. Some (44 ∷ r)) (text_of-rest t (more_items ts []))

pub more_text : (t : Tree) (ts : List Tree) → more_items_text (t ∷ ts) ≡ joined (Some (codes ",")) (joined (json_text t) (more_items_text ts))
more_text t ts = more-joined (value_image t) (trees_image (trees ts))

entry-rest : (key value : Tree) (k : List ℕ) → text_of key (58 ∷ text_of value k) ≡ (text_of key [] ++ 58 ∷ text_of value []) ++ k
entry-rest key value k = text_of-rest key (58 ∷ text_of value k) ∙ ap (λ r. text_of key [] ++ 58 ∷ r) (text_of-rest value k) ∙ sym (regroup (text_of key []) (58 ∷ text_of value []) k)

abbrev entry_joined : Option Tree → Option Tree → Option (List ℕ)
entry_joined o p = joined (option_map (λ i. text_of i []) o) (joined (Some (codes ":")) (option_map (λ i. text_of i []) p))

entries-joined : (o p : Option Tree) (os : Option Entries) → option_map (λ i. text_of i []) (option_map map (next_entry o p os)) ≡ joined (Some (codes "{")) (joined (entry_joined o p) (option_map (λ i. more_entries i []) os))
entries-joined None p os = refl
entries-joined (Some key) None os = refl
entries-joined (Some key) (Some value) None = refl
entries-joined (Some key) (Some value) (Some es) = ap (λ r. Some (123 ∷ r)) (entry-rest key value (more_entries es []))

pub map_text : (e : Tree × Tree) (es : List (Tree × Tree)) → json_text (map (entries (e ∷ es))) ≡ joined (Some (codes "{")) (joined (entry_text e.0 e.1) (more_entries_text es))
map_text e es = entries-joined (key_image e.0) (value_image e.1) (entries_image (entries es))

behind-joined : (o p : Option Tree) (os : Option Entries) → option_map (λ i. more_entries i []) (next_entry o p os) ≡ joined (Some (codes ",")) (joined (entry_joined o p) (option_map (λ i. more_entries i []) os))
behind-joined None p os = refl
behind-joined (Some key) None os = refl
behind-joined (Some key) (Some value) None = refl
behind-joined (Some key) (Some value) (Some es) = ap (λ r. Some (44 ∷ r)) (entry-rest key value (more_entries es []))

pub behind_text : (e : Tree × Tree) (es : List (Tree × Tree)) → more_entries_text (e ∷ es) ≡ joined (Some (codes ",")) (joined (entry_text e.0 e.1) (more_entries_text es))
behind_text e es = behind-joined (key_image e.0) (value_image e.1) (entries_image (entries es))
