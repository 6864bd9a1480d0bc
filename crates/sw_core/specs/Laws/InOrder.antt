-- What is read as a list, and then put into a map or a set in turn.
use Rattle.std.proofs.Common.{◌≡◌, ℕ, List, [], map, Result, Ok, Err, sym, ap, ◌∙◌}
use Rattle.std.specs.declared.cmp.Ordering.{Ordering}
use Rattle.sw_tree.specs.Meaning.{Meaning, list, meanings}
use Rattle.sw_tree.specs.Laws.Meaning.{parts-meanings}
use Rattle.sw_tree.specs.Meant.{list_meaning, pair_meaning}
use Rattle.sw_tree.specs.Placed.{placed, placed_at}
use Rattle.sw_tree.specs.Ranks.{Order, IsOrderOf}
use Rattle.sw_tree.specs.Seen.{Seen}
use Rattle.sw_tree.specs.Sorted.{sorted, by_first, value_replaced, old_stays, sort_onto, sort_keys_onto}
use Rattle.sw_tree.specs.Laws.Sorted.{sort_onto-put_all, sort_keys_onto-put_all}
use Rattle.sw_tree.specs.Steps.{bind}
use Rattle.sw_tree.specs.declared.mode.Mode.{Mode}
use Rattle.sw_tree.specs.declared.fail.DeError.{DeError}
use Rattle.sw_elem.specs.Equations.{Reads, Spots}
use Rattle.sw_core.specs.OrderedMap.{in_order, ordered_reads}

mapped_placed : (s : Seen) (k : ℕ) (f : Meaning → Meaning) (r : Result Meaning DeError) (v w : Meaning) → placed_at s k r ≡ Ok v → f v ≡ w → placed_at s k (bind r (λ x. Ok (f x))) ≡ Ok w
mapped_placed s k f (Ok x) v w p q = let e : x ≡ v = cc p in ap (λ y. Ok (f y)) e ∙ ap Ok q
mapped_placed s k f (Err d) v w p q = absurd (cc)

module _ {K X : Type 0} (cmp : K → K → Ordering) (f : K → Meaning) (R : Order) (o : IsOrderOf cmp f R) (g : X → Meaning) where
  put_in_turn : (es ms : List (K × X)) → ms ≡ sort_onto cmp [] es → in_order (by_first R) value_replaced (list_meaning (pair_meaning f g) es) ≡ list_meaning (pair_meaning f g) ms
  put_in_turn es ms e =
      ap (λ vs. list (meanings (sorted (by_first R) value_replaced vs))) (parts-meanings (map (pair_meaning f g) es))
      ∙ ap (λ vs. list (meanings vs)) (sym (sort_onto-put_all cmp f R o g [] es))
      ∙ ap (list_meaning (pair_meaning f g)) (sym e)

  pub map_put : (r : Reads) (s : Spots) (m : Mode) (shown : Seen) (es ms : List (K × X)) → placed (r m) (s m) shown ≡ Ok (list_meaning (pair_meaning f g) es) → ms ≡ sort_onto cmp [] es →
      placed (ordered_reads (by_first R) value_replaced r m) (s m) shown ≡ Ok (list_meaning (pair_meaning f g) ms)
  map_put r s m shown es ms p e = mapped_placed shown (s m shown.tree) (in_order (by_first R) value_replaced) (r m shown.tree) (list_meaning (pair_meaning f g) es) (list_meaning (pair_meaning f g) ms) p (put_in_turn es ms e)

module _ {K : Type 0} (cmp : K → K → Ordering) (f : K → Meaning) (R : Order) (o : IsOrderOf cmp f R) where
  items_in_turn : (ks ms : List K) → ms ≡ sort_keys_onto cmp [] ks → in_order R old_stays (list_meaning f ks) ≡ list_meaning f ms
  items_in_turn ks ms e =
      ap (λ vs. list (meanings (sorted R old_stays vs))) (parts-meanings (map f ks))
      ∙ ap (λ vs. list (meanings vs)) (sym (sort_keys_onto-put_all cmp f R o [] ks))
      ∙ ap (list_meaning f) (sym e)

  pub set_put : (r : Reads) (s : Spots) (m : Mode) (shown : Seen) (ks ms : List K) → placed (r m) (s m) shown ≡ Ok (list_meaning f ks) → ms ≡ sort_keys_onto cmp [] ks →
      placed (ordered_reads R old_stays r m) (s m) shown ≡ Ok (list_meaning f ms)
  set_put r s m shown ks ms p e = mapped_placed shown (s m shown.tree) (in_order R old_stays) (r m shown.tree) (list_meaning f ks) (list_meaning f ms) p (items_in_turn ks ms e)
