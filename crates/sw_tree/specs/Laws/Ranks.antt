-- A total order of the meanings with their proofs is as good as an order, and what orders meanings orders fewer.
use Rattle.std.specs.Prelude.{◌≡◌, false}
use Rattle.std.specs.Ordering.{ordering_reverse, is_gt, ordering_then}
use Rattle.std.specs.declared.cmp.Ordering.{Ordering}
use Rattle.std.specs.declared.cmp.Ordering.TheVariants.{Less, Equal, Greater}
use Rattle.std.specs.Cmp.{IsTotalOrder, tied_itself, upto}
use Rattle.std.proofs.Common.{refl, ap, ◌∙◌}
use Rattle.sw_tree.specs.Meaning.{Meaning}
use Rattle.sw_tree.specs.Ranks.{Order, Ranks, TellsApart}

-- ---- a total order of the meanings with their proofs is as good
abbrev pub Of : (Meaning → Type 0) → Type 0
Of P = (x : Meaning) × P x

abbrev pub TotalOn : (Meaning → Type 0) → Order → Type 0
TotalOn P R = IsTotalOrder {K = Of P} (λ a b. R a.0 b.0)

pub ranks_from_total : (P : Meaning → Type 0) (R : Order) → TotalOn P R → Ranks P R
ranks_from_total P R o = record {
  itself = λ x h. tied_itself o (x, h);
  turned = λ x y h k. o.antisymm (x, h) (y, k);
  chains = λ x y z h k l. upto o (x, h) (y, k) (z, l);
}

module _ (P : Meaning → Type 0) (R : Order) (o : Ranks P R) where
  pub turned_as : (x y : Meaning) → P x → P y → (r : Ordering) → R x y ≡ r → R y x ≡ ordering_reverse r
  turned_as x y h k r e = o.turned y x k h ∙ ap ordering_reverse e

  below : (x z : Meaning) → P x → P z → (r : Ordering) → R x z ≡ r → is_gt r ≡ false → (R z x ≡ Equal → ⊥) → r ≡ Less
  below x z h k Less e g n = refl
  below x z h k Equal e g n = absurd (n (turned_as x z h k Equal e))
  below x z h k Greater e g n = absurd (cc)

  pub less_chain : (x y z : Meaning) → P x → P y → P z → R x y ≡ Less → R y z ≡ Less → R x z ≡ Less
  less_chain x y z h k l p q =
      let g : is_gt (R x z) ≡ false = o.chains x y z h k l (ap is_gt p) (ap is_gt q) in
      let n : R z x ≡ Equal → ⊥ = λ e. clash (R z y) (turned_as y z k l Less q) (o.chains z x y l h k (ap is_gt e) (ap is_gt p)) in
      below x z h l (R x z) refl g n
    where
      clash : (r : Ordering) → r ≡ Greater → is_gt r ≡ false → ⊥
      clash r e f = cc (ap is_gt e, f)

  tie : (x y z : Meaning) → P x → P y → P z → R x y ≡ Equal → (r s : Ordering) → R x z ≡ r → R y z ≡ s → r ≡ s
  tie x y z h k l e Less Less p q = refl
  tie x y z h k l e Less Equal p q = absurd (cc (ap is_gt (turned_as x z h l Less p), o.chains z y x l k h (ap is_gt (turned_as y z k l Equal q)) (ap is_gt (turned_as x y h k Equal e))))
  tie x y z h k l e Less Greater p q = absurd (cc (ap is_gt q, o.chains y x z k h l (ap is_gt (turned_as x y h k Equal e)) (ap is_gt p)))
  tie x y z h k l e Equal Less p q = absurd (cc (ap is_gt (turned_as y z k l Less q), o.chains z x y l h k (ap is_gt (turned_as x z h l Equal p)) (ap is_gt e)))
  tie x y z h k l e Equal Equal p q = refl
  tie x y z h k l e Equal Greater p q = absurd (cc (ap is_gt q, o.chains y x z k h l (ap is_gt (turned_as x y h k Equal e)) (ap is_gt p)))
  tie x y z h k l e Greater Less p q = absurd (cc (ap is_gt p, o.chains x y z h k l (ap is_gt e) (ap is_gt q)))
  tie x y z h k l e Greater Equal p q = absurd (cc (ap is_gt p, o.chains x y z h k l (ap is_gt e) (ap is_gt q)))
  tie x y z h k l e Greater Greater p q = refl

  pub total_from_ranks : TotalOn P R
  total_from_ranks = record {
    antisymm = λ a b. o.turned a.0 b.0 a.1 b.1;
    trans = λ a b c. less_chain a.0 b.0 c.0 a.1 b.1 c.1;
    congr = λ a b c e. tie a.0 b.0 c.0 a.1 b.1 c.1 e (R a.0 c.0) (R b.0 c.0) refl refl;
  }

-- ---- fewer meanings are in order too
module _ (P Q : Meaning → Type 0) (R : Order) (only : (x : Meaning) → Q x → P x) where
  pub ranks_of_fewer : Ranks P R → Ranks Q R
  ranks_of_fewer o = record {
    itself = λ x h. o.itself x (only x h);
    turned = λ x y h k. o.turned x y (only x h) (only y k);
    chains = λ x y z h k l. o.chains x y z (only x h) (only y k) (only z l);
  }

  pub fewer_apart : TellsApart P R → TellsApart Q R
  fewer_apart o x y h k e = o x y (only x h) (only y k) e

-- what compares equal by two orders does so by each
pub both_level : (a b : Ordering) → ordering_then a b ≡ Equal → (a ≡ Equal) × (b ≡ Equal)
both_level Less b e = absurd (cc)
both_level Equal b e = (refl, e)
both_level Greater b e = absurd (cc)
