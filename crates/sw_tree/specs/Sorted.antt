-- Sets and maps as ascending lists of meanings, what is put into such lists, and hashed entries in order.
use Rattle.std.specs.Prelude.{◌≡◌, List, [], ◌∷◌}
use Rattle.std.specs.Ordering.{match_ordering}
use Rattle.std.specs.BTreeMap.{insert_entry}
use Rattle.std.specs.BTreeSet.{insert_key}
use Rattle.std.specs.declared.cmp.Ordering.{Ordering}
use Rattle.std.specs.declared.cmp.Ordering.TheVariants.{Less}
use Rattle.sw_tree.specs.Meaning.{Meaning, list, parts}
use Rattle.sw_tree.specs.Steps.{Each}
use Rattle.sw_tree.specs.Meant.{IsPairOf, pair}
use Rattle.sw_tree.specs.Ranks.{Order}
use Rattle.sw_tree.specs.PairRanks.{first, second}

-- each is below those after it
abbrev pub Ascends : {A : Type 0} → (A → A → Ordering) → List A → Type 0
Ascends R [] = Unit {0}
Ascends R (x ∷ xs) = Each (λ y. R x y ≡ Less) xs × Ascends R xs

-- a list of items, ascending
abbrev pub IsSetOf : (Meaning → Type 0) → Order → Meaning → Type 0
IsSetOf P R (list vs) = Each P (parts vs) × Ascends R (parts vs)
IsSetOf P R _ = ⊥

-- pairs by their keys alone
abbrev pub by_first : Order → Order
by_first R x y = R (first x) (first y)

-- a list of pairs of a key and a value, ascending by the keys
abbrev pub IsMapOf : (Meaning → Type 0) → Order → (Meaning → Type 0) → Meaning → Type 0
IsMapOf P R Q = IsSetOf (IsPairOf P Q) (by_first R)

-- ---- what is put into an ascending list
-- where `join` gives what stands for one of the list and a new one that compares equal to it
module _ {A : Type 0} (R : A → A → Ordering) (join : A → A → A) where
  -- v at its place
  abbrev pub put : List A → A → List A
  put [] v = v ∷ []
  put (e ∷ es) v = match_ordering (R v e) (v ∷ e ∷ es) (join e v ∷ es) (e ∷ put es v)

  -- those of vs put in turn
  abbrev pub put_all : List A → List A → List A
  put_all es [] = es
  put_all es (v ∷ vs) = put_all (put es v) vs

  abbrev pub sorted : List A → List A
  sorted vs = put_all [] vs

abbrev pub Join : Type 0
Join = Meaning → Meaning → Meaning

-- in a set, the item of the list stays
abbrev pub old_stays : Join
old_stays e v = e

-- in a map, the key of the list takes the new value
abbrev pub value_replaced : Join
value_replaced e v = pair (first e) (second v)

-- ---- hashed entries and keys in order
module _ {K X : Type 0} (cmp : K → K → Ordering) where
  -- the entries es inserted in turn into others that are in order
  abbrev pub sort_onto : List (K × X) → List (K × X) → List (K × X)
  sort_onto others [] = others
  sort_onto others (e ∷ es) = sort_onto (insert_entry cmp others e.0 e.1) es

module _ {K : Type 0} (cmp : K → K → Ordering) where
  -- the keys ks inserted in turn into others that are in order
  abbrev pub sort_keys_onto : List K → List K → List K
  sort_keys_onto others [] = others
  sort_keys_onto others (k ∷ ks) = sort_keys_onto (insert_key cmp others k) ks
