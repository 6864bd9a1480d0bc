-- The kinds of the refusals where no option reads.
use Rattle.std.proofs.Common.{ℕ, ◌≡◌, List, [], ◌∷◌, Option, Result, Ok, Err, refl, ap, sym, ◌∙◌}
use Rattle.sw_tree.specs.Fail.{kind_of_error}
use Rattle.sw_tree.specs.Meaning.{Meaning}
use Rattle.sw_tree.specs.Placed.{placed_at}
use Rattle.sw_tree.specs.Seen.{Seen, place_at}
use Rattle.sw_tree.specs.declared.fail.DeError.{DeError}
use Rattle.sw_tree.specs.declared.fail.DeKind.{DeKind}
use Rattle.sw_tree.specs.declared.fail.Refusal.{Refusal}
use Rattle.sw_policy.specs.Options.{or_later}
use Rattle.sw_policy.specs.PickFirst.{four}
use Rattle.sw_policy.specs.Inner.Chosen.{before, in_four}

before-four : (k : DeKind) (ks : List DeKind) → before k (four ks) ≡ four (k ∷ ks)
before-four k [] = refl
before-four k (a ∷ []) = refl
before-four k (a ∷ b ∷ []) = refl
before-four k (a ∷ b ∷ c ∷ []) = refl
before-four k (a ∷ b ∷ c ∷ d ∷ ks) = refl

-- an option and all that come later are refused
pub none_reads : (s : Seen) (n : ℕ) (r : Result Meaning DeError) (q : Result Meaning (List DeKind)) (x : Refusal) (ks : List (Option DeKind)) →
    placed_at s n r ≡ Err x → in_four q ≡ Err ks → in_four (or_later r q) ≡ Err (before (kind_of_error x.error) ks)
none_reads s n (Ok v) q x ks h e = absurd (cc)
none_reads s n (Err d) (Ok v) x ks h e = absurd (cc)
none_reads s n (Err d) (Err k) x ks h e =
    let is : record { error = d; place = place_at s n } ≡ x = cc in
    let same : d ≡ x.error = ap (λ (y : Refusal). y.error) is in
    let kinds : four k ≡ ks = cc in
    ap Err (sym (before-four (kind_of_error d) k) ∙ ap (before (kind_of_error d)) kinds ∙ ap (λ (y : DeError). before (kind_of_error y) ks) same)
