-- Options are in order where what they hold is.
use Rattle.std.specs.Prelude.{Some, None, ◌≡◌, zero, suc, Option}
use Rattle.std.specs.Option.{option_cmp}
use Rattle.std.specs.declared.cmp.Ordering.{Ordering}
use Rattle.std.specs.Cmp.{IsTotalOrder, on_total}
use Rattle.std.specs.Cmp.Lexicographic.{options_total}
use Rattle.std.proofs.Common.{refl, ap, subst}
use Rattle.sw_tree.specs.Meaning.{Meaning, nothing, case}
use Rattle.sw_tree.specs.Meant.{option_meaning, IsOptionOf}
use Rattle.sw_tree.specs.Ranks.{Order, IsOrderOf, Ranks, TellsApart}
use Rattle.sw_tree.specs.OptionRanks.{option_order}
use Rattle.sw_tree.specs.Laws.Ranks.{Of, ranks_from_total, total_from_ranks}

pub option_order-is : {T : Type 0} (cmp : T → T → Ordering) (f : T → Meaning) (R : Order) → IsOrderOf cmp f R → IsOrderOf (option_cmp cmp) (option_meaning f) (option_order R)
option_order-is cmp f R o None None = refl
option_order-is cmp f R o None (Some y) = refl
option_order-is cmp f R o (Some x) None = refl
option_order-is cmp f R o (Some x) (Some y) = o x y

module _ (P : Meaning → Type 0) where
  abbrev proved : (x : Meaning) → IsOptionOf P x → Option (Of P)
  proved (case zero nothing) h = None
  proved (case (suc zero) v) h = Some (v, h)
  proved _ h = absurd h

  module _ (R : Order) where
    as_proved : (x y : Meaning) (h : IsOptionOf P x) (k : IsOptionOf P y) → option_cmp (λ a b. R a.0 b.0) (proved x h) (proved y k) ≡ option_order R x y
    as_proved (case zero nothing) (case zero nothing) h k = refl
    as_proved (case zero nothing) (case (suc zero) v) h k = refl
    as_proved (case zero nothing) _ h k = absurd k
    as_proved (case (suc zero) u) (case zero nothing) h k = refl
    as_proved (case (suc zero) u) (case (suc zero) v) h k = refl
    as_proved (case (suc zero) u) _ h k = absurd k
    as_proved _ y h k = absurd h

    pub option_ranks : Ranks P R → Ranks (IsOptionOf P) (option_order R)
    option_ranks r = ranks_from_total (IsOptionOf P) (option_order R)
        (subst IsTotalOrder (λ i a b. as_proved a.0 b.0 a.1 b.1 i)
        (on_total (λ (a : Of (IsOptionOf P)). proved a.0 a.1) (options_total (total_from_ranks P R r))))

    pub options_apart : TellsApart P R → TellsApart (IsOptionOf P) (option_order R)
    options_apart r (case zero nothing) (case zero nothing) h k e = refl
    options_apart r (case zero nothing) (case (suc zero) v) h k e = absurd (cc)
    options_apart r (case zero nothing) _ h k e = absurd k
    options_apart r (case (suc zero) u) (case zero nothing) h k e = absurd (cc)
    options_apart r (case (suc zero) u) (case (suc zero) v) h k e = ap (case 1) (r u v h k e)
    options_apart r (case (suc zero) u) _ h k e = absurd k
    options_apart r _ y h k e = absurd h
