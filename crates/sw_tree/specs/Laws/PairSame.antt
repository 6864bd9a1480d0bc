-- Pairs of one meaning are equal and hash alike, as both parts.
use Rattle.std.specs.Prelude.{Bool, ◌&&◌, ◌++◌}
use Rattle.std.specs.Hash.{HashWrites}
use Rattle.std.specs.Cmp.{first_so, second_so}
use Rattle.std.proofs.Common.{ap}
use Rattle.sw_tree.specs.Meaning.{Meaning}
use Rattle.sw_tree.specs.Meant.{pair, pair_meaning, IsPairOf}
use Rattle.sw_tree.specs.PairRanks.{first, second}
use Rattle.sw_tree.specs.SameMeaning.{TellsSame, HashesAlike}

module _ {A B : Type 0} (P Q : Meaning → Type 0) (f : A → Meaning) (g : B → Meaning) where
  pub pairs_same : (D : A → A → Bool) (E : B → B → Bool) → TellsSame P f D → TellsSame Q g E →
      TellsSame (IsPairOf P Q) (pair_meaning f g) (λ x y. D x.0 y.0 && E x.1 y.1)
  pairs_same D E s t x y h k =
      let a = s x.0 y.0 h.0 k.0 in
      let b = t x.1 y.1 h.1 k.1 in (
        λ e i. pair (a.0 (first_so (D x.0 y.0) (E x.1 y.1) e) i) (b.0 (second_so (D x.0 y.0) (E x.1 y.1) e) i),
        λ e i. a.1 (ap first e) i && b.1 (ap second e) i,
      )

  pub pairs_alike : (F : A → HashWrites) (G : B → HashWrites) → HashesAlike P f F → HashesAlike Q g G →
      HashesAlike (IsPairOf P Q) (pair_meaning f g) (λ x. F x.0 ++ G x.1)
  pairs_alike F G a b x y h e = λ i. a x.0 y.0 h.0 (ap first e) i ++ b x.1 y.1 h.1 (ap second e) i
