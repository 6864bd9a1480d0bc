-- What is put into a hashed map or set in turn is put in order in turn.
use Rattle.std.proofs.Common.{◌≡◌, Bool, List, [], ◌∷◌, Option, MatchOption, IsPermutation, not, refl, ap, sym, ◌∙◌}
use Rattle.std.specs.Bool.{MatchBool}
use Rattle.std.specs.Cmp.{IsTotalOrder}
use Rattle.std.specs.List.{IsDistinct, list_any}
use Rattle.std.specs.Map.{keys_of, lookup, set_value}
use Rattle.std.specs.Ordering.{is_eq}
use Rattle.std.specs.declared.cmp.Ordering.{Ordering}
use Rattle.sw_tree.specs.Sorted.{sort_onto, sort_keys_onto}
use Rattle.sw_tree.specs.Laws.Hashed.{inserted_entry, inserted_key}

-- ---- entries

module _ {K X : Type 0} (cmp : K → K → Ordering) (eq : K → K → Bool) where
  -- what is held by now, in order, with what is left put in makes the whole in order
  pub record Hashes (all held left : List (K × X)) : Type 0 where
    pub same : sort_onto cmp [] all ≡ sort_onto cmp (sort_onto cmp [] held) left
    pub apart : IsDistinct eq (keys_of held)

  pub hashes_none : (all held left : List (K × X)) → held ≡ [] → left ≡ all → IsDistinct eq (keys_of held) → Hashes all held left
  hashes_none all held left p q d = record { same = rw (p, q) refl; apart = d }

  pub hashes_all : (all held left : List (K × X)) → Hashes all held left → left ≡ [] → sort_onto cmp [] held ≡ sort_onto cmp [] all
  hashes_all all held left h p = sym (h.same ∙ ap (sort_onto cmp (sort_onto cmp [] held)) p)

  module _ (o : IsTotalOrder cmp) (ties : (x y : K) → eq x y ≡ is_eq (cmp x y)) where
    pub hashes_next : (all held new left rest : List (K × X)) (k : K) (v : X) (old : Option X) → Hashes all held left → left ≡ (k, v) ∷ rest → old ≡ lookup (eq k) held →
        MatchOption old (IsPermutation ((k, v) ∷ held) new) (λ _. new ≡ set_value (eq k) held v) → IsDistinct eq (keys_of new) → Hashes all new rest
    hashes_next all held new left rest k v old h p q m d = record {
      same = h.same ∙ ap (sort_onto cmp (sort_onto cmp [] held)) p ∙ ap (λ l. sort_onto cmp l rest) (sym (inserted_entry cmp o eq ties held new k v old h.apart d q m));
      apart = d;
    }

-- ---- items

module _ {K : Type 0} (cmp : K → K → Ordering) (eq : K → K → Bool) where
  -- the same of items
  pub record HashesKeys (all held left : List K) : Type 0 where
    pub same : sort_keys_onto cmp [] all ≡ sort_keys_onto cmp (sort_keys_onto cmp [] held) left
    pub apart : IsDistinct eq held

  pub keys_none : (all held left : List K) → held ≡ [] → left ≡ all → IsDistinct eq held → HashesKeys all held left
  keys_none all held left p q d = record { same = rw (p, q) refl; apart = d }

  pub keys_all : (all held left : List K) → HashesKeys all held left → left ≡ [] → sort_keys_onto cmp [] held ≡ sort_keys_onto cmp [] all
  keys_all all held left h p = sym (h.same ∙ ap (sort_keys_onto cmp (sort_keys_onto cmp [] held)) p)

  module _ (o : IsTotalOrder cmp) (ties : (x y : K) → eq x y ≡ is_eq (cmp x y)) where
    pub keys_next : (all held new left rest : List K) (k : K) (added : Bool) → HashesKeys all held left → left ≡ k ∷ rest → added ≡ not (list_any (eq k) held) →
        MatchBool added (IsPermutation (k ∷ held) new) (new ≡ held) → IsDistinct eq new → HashesKeys all new rest
    keys_next all held new left rest k added h p q m d = record {
      same = h.same ∙ ap (sort_keys_onto cmp (sort_keys_onto cmp [] held)) p ∙ ap (λ l. sort_keys_onto cmp l rest) (sym (inserted_key cmp o eq ties held new k added h.apart d q m));
      apart = d;
    }
