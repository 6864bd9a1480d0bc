-- Pairs that are read as the entries of a map, and then put into a set in turn.
use Rattle.std.proofs.Common.{◌≡◌, List, [], Ok}
use Rattle.std.specs.Ordering.{ordering_then}
use Rattle.std.specs.declared.cmp.Ordering.{Ordering}
use Rattle.sw_tree.specs.Meaning.{Meaning}
use Rattle.sw_tree.specs.Meant.{list_meaning, pair_meaning}
use Rattle.sw_tree.specs.PairRanks.{pair_order}
use Rattle.sw_tree.specs.Placed.{placed}
use Rattle.sw_tree.specs.Ranks.{Order, IsOrderOf}
use Rattle.sw_tree.specs.Seen.{Seen}
use Rattle.sw_tree.specs.Sorted.{old_stays, sort_keys_onto}
use Rattle.sw_tree.specs.declared.mode.Mode.{Mode}
use Rattle.sw_elem.specs.Equations.{Reads, Spots}
use Rattle.sw_core.specs.OrderedMap.{ordered_reads}
use Rattle.sw_core.specs.Laws.InOrder.{set_put}

-- as std compares pairs
abbrev pub pair_cmp : {A C : Type 0} → (A → A → Ordering) → (C → C → Ordering) → A × C → A × C → Ordering
pair_cmp cmp dmp x y = ordering_then (cmp x.0 y.0) (dmp x.1 y.1)

module _ {A C : Type 0} (cmp : A → A → Ordering) (f : A → Meaning) (R : Order) (o : IsOrderOf cmp f R) (dmp : C → C → Ordering) (g : C → Meaning) (S : Order) (p : IsOrderOf dmp g S) where
  pub pair_set_put : (r : Reads) (s : Spots) (m : Mode) (shown : Seen) (ks ms : List (A × C)) → placed (r m) (s m) shown ≡ Ok (list_meaning (pair_meaning f g) ks) → ms ≡ sort_keys_onto (pair_cmp cmp dmp) [] ks →
      placed (ordered_reads (pair_order R S) old_stays r m) (s m) shown ≡ Ok (list_meaning (pair_meaning f g) ms)
  pair_set_put = set_put (pair_cmp cmp dmp) (pair_meaning f g) (pair_order R S) (λ x y i. ordering_then (o x.0 y.0 i) (p x.1 y.1 i))
