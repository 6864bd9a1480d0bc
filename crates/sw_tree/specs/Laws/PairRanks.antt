-- Pairs are in order where their parts are.
use Rattle.std.specs.Prelude.{◌≡◌}
use Rattle.std.specs.Cmp.{on_total, then_total}
use Rattle.std.proofs.Common.{refl, sym, ◌∙◌}
use Rattle.sw_tree.specs.Meaning.{Meaning, list, no_meanings, meaning}
use Rattle.sw_tree.specs.Meant.{IsPairOf, pair}
use Rattle.sw_tree.specs.Ranks.{Order, Ranks, TellsApart}
use Rattle.sw_tree.specs.PairRanks.{first, second, pair_order}
use Rattle.sw_tree.specs.Laws.Ranks.{Of, ranks_from_total, total_from_ranks, both_level}

module _ (P Q : Meaning → Type 0) where
  pub first_is : (x : Meaning) → IsPairOf P Q x → P (first x)
  first_is (list (meaning a (meaning b no_meanings))) h = h.0
  first_is _ h = absurd h

  pub second_is : (x : Meaning) → IsPairOf P Q x → Q (second x)
  second_is (list (meaning a (meaning b no_meanings))) h = h.1
  second_is _ h = absurd h

  pair_is : (x : Meaning) → IsPairOf P Q x → x ≡ pair (first x) (second x)
  pair_is (list (meaning a (meaning b no_meanings))) h = refl
  pair_is _ h = absurd h

  module _ (R S : Order) where
    pub pair_ranks : Ranks P R → Ranks Q S → Ranks (IsPairOf P Q) (pair_order R S)
    pair_ranks r s = ranks_from_total (IsPairOf P Q) (pair_order R S)
        (then_total
        (on_total (λ (a : Of (IsPairOf P Q)). (first a.0, first_is a.0 a.1)) (total_from_ranks P R r))
        (on_total (λ (a : Of (IsPairOf P Q)). (second a.0, second_is a.0 a.1)) (total_from_ranks Q S s)))

    pub pairs_apart : TellsApart P R → TellsApart Q S → TellsApart (IsPairOf P Q) (pair_order R S)
    pairs_apart r s x y h k e =
        let b = both_level (R (first x) (first y)) (S (second x) (second y)) e in
        pair_is x h
        ∙ (λ i. pair (r (first x) (first y) (first_is x h) (first_is y k) b.0 i) (s (second x) (second y) (second_is x h) (second_is y k) b.1 i))
        ∙ sym (pair_is y k)
