-- References that are put in order show what they point to, put in order.
use Rattle.std.proofs.Common.{◌≡◌, List, [], ◌∷◌, map, Result, Bor, refl, ap, sym, ◌∙◌}
use Rattle.std.specs.BTreeMap.{insert_entry}
use Rattle.std.specs.BTreeSet.{insert_key}
use Rattle.std.specs.Map.Iter.{deref, deref_pair}
use Rattle.std.specs.Ordering.{match_ordering}
use Rattle.std.specs.declared.cmp.Ordering.{Ordering}
use Rattle.std.specs.declared.cmp.Ordering.TheVariants.{Less, Equal, Greater}
use Rattle.sw_tree.specs.Sorted.{sort_onto, sort_keys_onto}
use Rattle.sw_tree.specs.Steps.{traverse}
use Rattle.sw_tree.specs.Tree.{Tree}
use Rattle.sw_tree.specs.declared.fail.SerError.{SerError}
use Rattle.sw_core.specs.Inner.Putting.{all_put_pairs}

-- ---- entries

module _ {K X : Type 0} (cmp : K → K → Ordering) where
  abbrev insert_lent : List (Bor K × Bor X) → Bor K → Bor X → List (Bor K × Bor X)
  insert_lent es k v = insert_entry (λ x y. cmp x.now y.now) es k v

  entry_case : (e : Bor K × Bor X) (es : List (Bor K × Bor X)) (k : Bor K) (v : Bor X) (r : Ordering) → map deref_pair (insert_lent es k v) ≡ insert_entry cmp (map deref_pair es) k.now v.now
      → map deref_pair (match_ordering r ((k, v) ∷ e ∷ es) ((e.0, v) ∷ es) (e ∷ insert_lent es k v))
      ≡ match_ordering r ((k.now, v.now) ∷ deref_pair e ∷ map deref_pair es) ((e.0.now, v.now) ∷ map deref_pair es) (deref_pair e ∷ insert_entry cmp (map deref_pair es) k.now v.now)
  entry_case e es k v Less p = refl
  entry_case e es k v Equal p = refl
  entry_case e es k v Greater p = ap (λ l. deref_pair e ∷ l) p

  entry_shown : (es : List (Bor K × Bor X)) (k : Bor K) (v : Bor X) → map deref_pair (insert_lent es k v) ≡ insert_entry cmp (map deref_pair es) k.now v.now
  entry_shown [] k v = refl
  entry_shown (e ∷ es) k v = entry_case e es k v (cmp k.now e.0.now) (entry_shown es k v)

  -- an entry that is lent comes off the front of what is left, and goes to its place
  pub entry_lent : (held new : List (Bor K × Bor X)) (all left rest : List (K × X)) (k : Bor K) (v : Bor X) → sort_onto cmp (map deref_pair held) left ≡ sort_onto cmp [] all → left ≡ (k.now, v.now) ∷ rest
      → new ≡ insert_entry (λ x y. cmp x.now y.now) held k v → sort_onto cmp (map deref_pair new) rest ≡ sort_onto cmp [] all
  entry_lent held new all left rest k v p q e =
      ap (λ l. sort_onto cmp l rest) (ap (map deref_pair) e ∙ entry_shown held k v) ∙ ap (sort_onto cmp (map deref_pair held)) (sym q) ∙ p

-- ---- items

module _ {K : Type 0} (cmp : K → K → Ordering) where
  abbrev insert_lent_key : List (Bor K) → Bor K → List (Bor K)
  insert_lent_key ks k = insert_key (λ x y. cmp x.now y.now) ks k

  key_case : (x : Bor K) (xs : List (Bor K)) (k : Bor K) (r : Ordering) → map deref (insert_lent_key xs k) ≡ insert_key cmp (map deref xs) k.now
      → map deref (match_ordering r (k ∷ x ∷ xs) (x ∷ xs) (x ∷ insert_lent_key xs k)) ≡ match_ordering r (k.now ∷ x.now ∷ map deref xs) (x.now ∷ map deref xs) (x.now ∷ insert_key cmp (map deref xs) k.now)
  key_case x xs k Less p = refl
  key_case x xs k Equal p = refl
  key_case x xs k Greater p = ap (λ l. x.now ∷ l) p

  key_shown : (xs : List (Bor K)) (k : Bor K) → map deref (insert_lent_key xs k) ≡ insert_key cmp (map deref xs) k.now
  key_shown [] k = refl
  key_shown (x ∷ xs) k = key_case x xs k (cmp k.now x.now) (key_shown xs k)

  -- an item that is lent comes off the front of what is left, and goes to its place
  pub key_lent : (held new : List (Bor K)) (all left rest : List K) (k : Bor K) → sort_keys_onto cmp (map deref held) left ≡ sort_keys_onto cmp [] all → left ≡ k.now ∷ rest
      → new ≡ insert_key (λ x y. cmp x.now y.now) held k → sort_keys_onto cmp (map deref new) rest ≡ sort_keys_onto cmp [] all
  key_lent held new all left rest k p q e =
      ap (λ l. sort_keys_onto cmp l rest) (ap (map deref) e ∙ key_shown held k) ∙ ap (sort_keys_onto cmp (map deref held)) (sym q) ∙ p

-- ---- what is put in of each

traverse_shown : {A X B E : Type 0} (shows : A → X) (f : X → Result B E) (es : List A) → traverse f (map shows es) ≡ traverse (λ e. f (shows e)) es
traverse_shown shows f [] = refl
traverse_shown shows f (e ∷ es) = rw (traverse_shown shows f es) refl

module _ {S A X : Type 0} (put : Tree → S → S) (shows : A → X) where
  pub put_shown : (f : X → Result (Tree × Tree) SerError) (es : List A) (s : S) → all_put_pairs put f (map shows es) s ≡ all_put_pairs put (λ e. f (shows e)) es s
  put_shown f es s = rw (traverse_shown shows f es) refl
