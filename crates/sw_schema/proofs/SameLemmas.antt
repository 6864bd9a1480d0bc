-- Lists and maps that are compared item by item, and items that are left.
use Rattle.std.proofs.Common.{◌≡◌, ℕ, zero, suc, ◌<◌, ◌-◌, ◌+◌, true, false, List, [], ◌∷◌, drop, Option, Some, None, refl, ap, sym, ◌∙◌, arith}
use Rattle.std.specs.Prelude.{option_map}
use Rattle.sw_tree.specs.Tree.{Tree, trees, entries, items_at, pairs_at}
use Rattle.sw_tree.specs.Tree as node
use Rattle.sw_schema.specs.SameTree.{same_tree, same_trees, same_entries}
use Rattle.sw_schema.specs.Valid.{are_different, is_new}
use Rattle.sw_schema.proofs.PartLemmas.{list_is, map_is}

pub same_lists : (a b : Tree) (xs ys : List Tree) → node.list (trees xs) ≡ a → Some ys ≡ items_at b → same_trees (trees xs) (trees ys) ≡ same_tree a b
same_lists a b xs ys p q = let e = list_is b ys q in λ i. same_tree (p i) (e i)

pub same_maps : (a b : Tree) (xs ys : List (Tree × Tree)) → node.map (entries xs) ≡ a → Some ys ≡ pairs_at b → same_entries (entries xs) (entries ys) ≡ same_tree a b
same_maps a b xs ys p q = let e = map_is b ys q in λ i. same_tree (p i) (e i)

-- ---- the items that are left

pub drop_next : {A : Type 0} (n : ℕ) (xs : List A) (y : A) (ys : List A) → drop n xs ≡ y ∷ ys → drop (n + 1) xs ≡ ys
drop_next zero [] y ys p = absurd (cc)
drop_next zero (x ∷ xs) y ys p = cc
drop_next (suc n) [] y ys p = absurd (cc)
drop_next (suc n) (x ∷ xs) y ys p = let e : suc n + 1 ≡ suc (n + 1) = omega arith in rw e (drop_next n xs y ys p)

-- the rest of a list's items, from those behind so many
pub left_next : (o : Option (List Tree)) (n : ℕ) (all : List Tree) (y : Tree) (left ys : List Tree) → o ≡ Some all → option_map (λ (ts : List Tree). drop n ts) o ≡ Some left → left ≡ y ∷ ys → drop (n + 1) all ≡ ys
left_next (Some xs) n all y left ys p q e = let a : xs ≡ all = cc in let b : drop n xs ≡ left = cc in rw (← a) (drop_next n xs y ys (b ∙ e))
left_next None n all y left ys p q e = absurd (cc)

pub left_after : (o : Option (List Tree)) (n : ℕ) (y : Tree) (left ys : List Tree) → option_map (λ (ts : List Tree). drop n ts) o ≡ Some left → left ≡ y ∷ ys → option_map (λ (ts : List Tree). drop (n + 1) ts) o ≡ Some ys
left_after (Some xs) n y left ys q e = let b : drop n xs ≡ left = cc in ap Some (drop_next n xs y ys (b ∙ e))
left_after None n y left ys q e = absurd (cc)

pub not_new : (y : Tree) (ys : List Tree) → is_new y ys ≡ false → are_different (y ∷ ys) ≡ false
not_new y ys h = rw h refl

pub new_first : (y : Tree) (ys : List Tree) → is_new y ys ≡ true → are_different (y ∷ ys) ≡ are_different ys
new_first y ys h = rw h refl

pub drop_none : {A : Type 0} (n : ℕ) (xs : List A) → xs ≡ [] → drop n xs ≡ []
drop_none zero xs e = e
drop_none (suc n) [] e = refl
drop_none (suc n) (x ∷ xs) e = absurd (cc)

pub drop_rest : {A : Type 0} (n i : ℕ) (xs : List A) (y : A) (ys all : List A) → i < n → xs ≡ y ∷ ys → drop (n - i) xs ≡ all → drop (n - (i + 1)) ys ≡ all
drop_rest n i xs y ys all h e p = let k : n - i ≡ suc (n - (i + 1)) = omega arith in let q : drop (suc (n - (i + 1))) (y ∷ ys) ≡ all = (λ j. drop (sym k j) (sym e j)) ∙ p in q
