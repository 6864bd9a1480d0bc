-- Images, and their levels.
use Rattle.std.proofs.Common.{◌≡◌, ℕ, ◌≤◌, pos, List, [], ◌∷◌, ◌++◌, Option, Some, None, refl, ap, sym, subst, ◌∙◌, arith, Result, Ok, Err}
use Rattle.std.specs.Prelude.{IsErrAnd, IfOk, map as list_map}
use Rattle.sw_tree.specs.Laws.Options.{map_some}
use Rattle.sw_tree.specs.Imaged.{MeansImage, IsImaged}
use Rattle.sw_tree.specs.declared.fail.PrintError.{PrintError}
use Rattle.sw_tree.specs.declared.fail.PrintError.TheVariants as print
use Rattle.sw_tree.specs.Tree.{Tree, Trees, Entries, null, truth, int, text, bytes, list, map, no_trees, tree, no_entries, entry, trees, entries, depth, trees_depth, entries_depth, items_at, pairs_at, bytes_at}
use Rattle.sw_tree.specs.Seen.{Seen}
use Rattle.sw_tree.specs.Inner.Seen.{trees_of, pairs_of}
use Rattle.sw_tree.specs.Image.{numbers, key_image, value_image, trees_image, entries_image, next_tree, next_entry}

-- what is no list, no map and no byte string is its own image
pub value_image-leaf : (t : Tree) → items_at t ≡ None → pairs_at t ≡ None → None ≡ bytes_at t → value_image t ≡ Some t
value_image-leaf null a b c = refl
value_image-leaf (truth v) a b c = refl
value_image-leaf (int n) a b c = refl
value_image-leaf (text s) a b c = refl
value_image-leaf (bytes s) a b c = cc
value_image-leaf (list ts) a b c = cc
value_image-leaf (map es) a b c = cc

pub numbers-map : (bs : List ℕ) → trees (list_map (λ b. int (pos b)) bs) ≡ numbers bs
numbers-map [] = refl
numbers-map (b ∷ bs) = ap (tree (int (pos b))) (numbers-map bs)

pub numbers-depth : (bs : List ℕ) → trees_depth (numbers bs) ≡ 0
numbers-depth [] = refl
numbers-depth (b ∷ bs) = omega (arith, numbers-depth bs)

-- ---- an image never has more levels than its tree

record TreesMade (f : Option Tree) (g : Option Trees) (us : Trees) : Type 0 where
  first : Tree
  rest : Trees
  is_first : f ≡ Some first
  is_rest : g ≡ Some rest
  made : tree first rest ≡ us

trees_made : (f : Option Tree) (g : Option Trees) (us : Trees) → next_tree f g ≡ Some us → TreesMade f g us
trees_made (Some t) (Some ts) us h = record { first = t; rest = ts; is_first = refl; is_rest = refl; made = cc }
trees_made (Some t) None us h = absurd (cc)
trees_made None g us h = absurd (cc)

record EntriesMade (e f : Option Tree) (g : Option Entries) (us : Entries) : Type 0 where
  key : Tree
  value : Tree
  rest : Entries
  is_key : e ≡ Some key
  is_value : f ≡ Some value
  is_rest : g ≡ Some rest
  made : entry key value rest ≡ us

entries_made : (e f : Option Tree) (g : Option Entries) (us : Entries) → next_entry e f g ≡ Some us → EntriesMade e f g us
entries_made (Some k) (Some v) (Some es) us h = record { key = k; value = v; rest = es; is_key = refl; is_value = refl; is_rest = refl; made = cc }
entries_made (Some k) (Some v) None us h = absurd (cc)
entries_made (Some k) None g us h = absurd (cc)
entries_made None f g us h = absurd (cc)

same_depth : (t u : Tree) → Some t ≡ Some u → depth u ≡ depth t
same_depth t u h = let e : u ≡ t = cc in ap depth e

key_depth : (t u : Tree) → key_image t ≡ Some u → depth u ≤ depth t
key_depth (text s) u h = omega (arith, same_depth _ u h)
key_depth (int n) u h = omega (arith, same_depth _ u h)
key_depth (truth b) u h = omega (arith, same_depth _ u h)
key_depth null u h = absurd (cc)
key_depth (bytes s) u h = absurd (cc)
key_depth (list ts) u h = absurd (cc)
key_depth (map es) u h = absurd (cc)

mutual
  pub value_image-depth : (t u : Tree) → value_image t ≡ Some u → depth u ≤ depth t
  value_image-depth null u h = omega (arith, same_depth _ u h)
  value_image-depth (truth b) u h = omega (arith, same_depth _ u h)
  value_image-depth (int n) u h = omega (arith, same_depth _ u h)
  value_image-depth (text s) u h = omega (arith, same_depth _ u h)
  value_image-depth (bytes s) u h = omega (arith, same_depth _ u h, numbers-depth s)
  value_image-depth (list ts) u h = let m = map_some list (trees_image ts) u h in omega (arith, ap depth m.2, trees_image-depth ts m.0 m.1)
  value_image-depth (map es) u h = let m = map_some map (entries_image es) u h in omega (arith, ap depth m.2, entries_image-depth es m.0 m.1)

  trees_image-depth : (ts us : Trees) → trees_image ts ≡ Some us → trees_depth us ≤ trees_depth ts
  trees_image-depth no_trees us h = let e : no_trees ≡ us = cc in omega (arith, ap trees_depth e)
  trees_image-depth (tree t ts) us h =
      let m = trees_made (value_image t) (trees_image ts) us h in
      omega (arith, ap trees_depth m.made, value_image-depth t m.first m.is_first, trees_image-depth ts m.rest m.is_rest)

  entries_image-depth : (es us : Entries) → entries_image es ≡ Some us → entries_depth us ≤ entries_depth es
  entries_image-depth no_entries us h = let e : no_entries ≡ us = cc in omega (arith, ap entries_depth e)
  entries_image-depth (entry k v es) us h =
      let m = entries_made (key_image k) (value_image v) (entries_image es) us h in
      omega (arith, ap entries_depth m.made, key_depth k m.key m.is_key, value_image-depth v m.value m.is_value, entries_image-depth es m.rest m.is_rest)

pub image_levels : (result : Result Tree PrintError) (t : Tree) → IsImaged result (value_image t) → IfOk result (λ u. depth u ≤ depth t)
image_levels (Ok u) t h = value_image-depth t u h
image_levels (Err e) t h = tt

-- ---- images one after another

-- the images of a whole list, where those of its first part are these
abbrev pub onto : List Tree → Option Trees → Option Trees
onto [] r = r
onto (t ∷ ts) r = next_tree (Some t) (onto ts r)

abbrev pub onto_entries : List (Tree × Tree) → Option Entries → Option Entries
onto_entries [] r = r
onto_entries (e ∷ es) r = next_entry (Some e.0) (Some e.1) (onto_entries es r)

pub onto-push : (ts : List Tree) (t : Tree) (r : Option Trees) → onto (ts ++ t ∷ []) r ≡ onto ts (next_tree (Some t) r)
onto-push [] t r = refl
onto-push (u ∷ ts) t r = ap (next_tree (Some u)) (onto-push ts t r)

pub onto-none : (ts : List Tree) → onto ts None ≡ None
onto-none [] = refl
onto-none (t ∷ ts) = ap (next_tree (Some t)) (onto-none ts)

pub onto-all : (ts : List Tree) → onto ts (Some no_trees) ≡ Some (trees ts)
onto-all [] = refl
onto-all (t ∷ ts) = ap (next_tree (Some t)) (onto-all ts)

pub onto_entries-push : (es : List (Tree × Tree)) (e : Tree × Tree) (r : Option Entries) → onto_entries (es ++ e ∷ []) r ≡ onto_entries es (next_entry (Some e.0) (Some e.1) r)
onto_entries-push [] e r = refl
onto_entries-push (d ∷ es) e r = ap (next_entry (Some d.0) (Some d.1)) (onto_entries-push es e r)

pub onto_entries-none : (es : List (Tree × Tree)) → onto_entries es None ≡ None
onto_entries-none [] = refl
onto_entries-none (e ∷ es) = ap (next_entry (Some e.0) (Some e.1)) (onto_entries-none es)

pub onto_entries-all : (es : List (Tree × Tree)) → onto_entries es (Some no_entries) ≡ Some (entries es)
onto_entries-all [] = refl
onto_entries-all (e ∷ es) = ap (next_entry (Some e.0) (Some e.1)) (onto_entries-all es)

-- ---- a step of a loop, and its end

module _ (whole : Option Trees) (got : List Tree) (before : List Seen) (so_far : whole ≡ onto got (trees_image (trees (trees_of before)))) where
  module _ (s : Seen) (rest : List Seen) (step : before ≡ s ∷ rest) where
    next_image : whole ≡ onto got (next_tree (value_image s.tree) (trees_image (trees (trees_of rest))))
    next_image = so_far ∙ ap (λ ss. onto got (trees_image (trees (trees_of ss)))) step

    pub image_on : (u : Tree) → value_image s.tree ≡ Some u → whole ≡ onto (got ++ u ∷ []) (trees_image (trees (trees_of rest)))
    image_on u h = next_image ∙ ap (λ o. onto got (next_tree o (trees_image (trees (trees_of rest))))) h ∙ sym (onto-push got u (trees_image (trees (trees_of rest))))

    pub image_lacks : value_image s.tree ≡ None → whole ≡ None
    image_lacks h = next_image ∙ ap (λ o. onto got (next_tree o (trees_image (trees (trees_of rest))))) h ∙ onto-none got

  pub images_all : before ≡ [] → whole ≡ Some (trees got)
  images_all e = so_far ∙ ap (λ ss. onto got (trees_image (trees (trees_of ss)))) e ∙ onto-all got

module _ (whole : Option Entries) (got : List (Tree × Tree)) (before : List (Seen × Seen)) (so_far : whole ≡ onto_entries got (entries_image (entries (pairs_of before)))) where
  module _ (e : Seen × Seen) (rest : List (Seen × Seen)) (step : before ≡ e ∷ rest) where
    next_entry_image : whole ≡ onto_entries got (next_entry (key_image e.0.tree) (value_image e.1.tree) (entries_image (entries (pairs_of rest))))
    next_entry_image = so_far ∙ ap (λ es. onto_entries got (entries_image (entries (pairs_of es)))) step

    pub entry_image_on : (k v : Tree) → key_image e.0.tree ≡ Some k → value_image e.1.tree ≡ Some v → whole ≡ onto_entries (got ++ (k, v) ∷ []) (entries_image (entries (pairs_of rest)))
    entry_image_on k v h g =
        next_entry_image
        ∙ (λ j. onto_entries got (next_entry (h j) (g j) (entries_image (entries (pairs_of rest)))))
        ∙ sym (onto_entries-push got (k, v) (entries_image (entries (pairs_of rest))))

    pub key_image_lacks : key_image e.0.tree ≡ None → whole ≡ None
    key_image_lacks h = next_entry_image ∙ ap (λ o. onto_entries got (next_entry o (value_image e.1.tree) (entries_image (entries (pairs_of rest))))) h ∙ onto_entries-none got

    pub value_image_lacks : (k : Tree) → key_image e.0.tree ≡ Some k → value_image e.1.tree ≡ None → whole ≡ None
    value_image_lacks k h g = next_entry_image ∙ (λ j. onto_entries got (next_entry (h j) (g j) (entries_image (entries (pairs_of rest))))) ∙ onto_entries-none got

  pub entry_images_all : before ≡ [] → whole ≡ Some (entries got)
  entry_images_all h = so_far ∙ ap (λ es. onto_entries got (entries_image (entries (pairs_of es)))) h ∙ onto_entries-all got

-- what is behind the first has no more levels than all
pub items_shallow : (before : List Seen) (s : Seen) (rest : List Seen) → before ≡ s ∷ rest → trees_depth (trees (trees_of rest)) ≤ trees_depth (trees (trees_of before))
items_shallow before s rest e = omega (arith, ap (λ ss. trees_depth (trees (trees_of ss))) e)

pub entries_shallow : (before : List (Seen × Seen)) (e : Seen × Seen) (rest : List (Seen × Seen)) → before ≡ e ∷ rest → entries_depth (entries (pairs_of rest)) ≤ entries_depth (entries (pairs_of before))
entries_shallow before e rest h = omega (arith, ap (λ es. entries_depth (entries (pairs_of es))) h)

-- ---- the refusal of a part

passed : {A B : Type 0} (f : A → B) (result : Result A PrintError) (e : PrintError) (r : Option B) → IsErrAnd result (λ y. y ≡ e) → MeansImage f (Err e) r → MeansImage f result r
passed f (Ok x) e r h k = absurd h
passed f (Err y) e r h k = subst (λ (z : PrintError). MeansImage f (Err z) r) (sym h) k

caused : {A B C D : Type 0} (f : A → B) (g : C → D) (e : PrintError) (r : Option B) (q : Option D) → MeansImage f (Err e) r → (r ≡ None → q ≡ None) → MeansImage g (Err e) q
caused f g print.Key r q h k = k h
caused f g print.Memory r q h k = tt

-- where a part is refused and its lack leaves the whole without an image, the whole is refused alike
pub refused : {A B C D : Type 0} (f : A → B) (g : C → D) (result : Result C PrintError) (e : PrintError) (r : Option B) (q : Option D) → IsErrAnd result (λ y. y ≡ e) → MeansImage f (Err e) r → (r ≡ None → q ≡ None) → MeansImage g result q
refused f g result e r q h k lack = passed g result e q h (caused f g e r q k lack)

pub ruleset images = (value_image-leaf, image_levels)
