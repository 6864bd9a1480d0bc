-- (), truth values, numbers and texts are in order, and it tells them apart.
use Rattle.std.specs.Prelude.{◌≡◌, Bool, true, false, ℕ, cond, pos, nat_lt, ◌==◌}
use Rattle.std.specs.Int.{Width}
use Rattle.std.specs.Ordering.{bool_cmp, nat_cmp, int_cmp}
use Rattle.std.specs.declared.cmp.Ordering.TheVariants.{Equal, Less, Greater}
use Rattle.std.specs.Cmp.{on_total, bool_cmp_total, int_cmp_total}
use Rattle.std.specs.Cmp.Lexicographic.{nat_list_cmp_total}
use Rattle.std.proofs.Common.{refl, ap, arith}
use Rattle.std.proofs.lemmas.Bool.{eqb-true, ltb-true, ltb-false, eqb-false}
use Rattle.std.proofs.lemmas.Map.Lookups.{exact_signed, exact_bytes}
use Rattle.sw_tree.specs.Meaning.{Meaning, nothing, truth, number, text}
use Rattle.sw_tree.specs.Meant.{IsNothing, IsTruth, IsBelow, IsSigned, IsWholeNumber, IsText}
use Rattle.sw_tree.specs.Ranks.{Ranks, TellsApart}
use Rattle.sw_tree.specs.LeafRanks.{level_order, truth_of, truth_order, number_of, number_order, text_of, text_order}
use Rattle.sw_tree.specs.Laws.Ranks.{Of, ranks_from_total}

pub level_ranks : (P : Meaning → Type 0) → Ranks P level_order
level_ranks P = record { itself = λ x h. refl; turned = λ x y h k. refl; chains = λ x y z h k l a b. refl }

pub truth_ranks : (P : Meaning → Type 0) → Ranks P truth_order
truth_ranks P = ranks_from_total P truth_order (on_total (λ (a : Of P). truth_of a.0) bool_cmp_total)

pub number_ranks : (P : Meaning → Type 0) → Ranks P number_order
number_ranks P = ranks_from_total P number_order (on_total (λ (a : Of P). number_of a.0) int_cmp_total)

pub text_ranks : (P : Meaning → Type 0) → Ranks P text_order
text_ranks P = ranks_from_total P text_order (on_total (λ (a : Of P). text_of a.0) nat_list_cmp_total)

pub nothing_apart : TellsApart IsNothing level_order
nothing_apart nothing nothing h k e = refl
nothing_apart nothing _ h k e = absurd k
nothing_apart _ y h k e = absurd h

bools_apart : (a b : Bool) → bool_cmp a b ≡ Equal → a ≡ b
bools_apart true true e = refl
bools_apart true false e = absurd (cc)
bools_apart false true e = absurd (cc)
bools_apart false false e = refl

pub truth_apart : TellsApart IsTruth truth_order
truth_apart (truth a) (truth b) h k e = ap truth (bools_apart a b e)
truth_apart (truth a) _ h k e = absurd k
truth_apart _ y h k e = absurd h

pub below_apart : (n : ℕ) → TellsApart (IsBelow n) number_order
below_apart n (number a) (number b) h k e = ap number (exact_signed a b e)
below_apart n (number a) _ h k e = absurd k
below_apart n _ y h k e = absurd h

pub signed_apart : (w : Width) → TellsApart (IsSigned w) number_order
signed_apart w (number a) (number b) h k e = ap number (exact_signed a b e)
signed_apart w (number a) _ h k e = absurd k
signed_apart w _ y h k e = absurd h

pub whole_apart : TellsApart IsWholeNumber number_order
whole_apart (number a) (number b) h k e = ap number (exact_signed a b e)
whole_apart (number a) _ h k e = absurd k
whole_apart _ y h k e = absurd h

pub texts_apart : TellsApart IsText text_order
texts_apart (text a) (text b) h k e = ap text (exact_bytes a b e)
texts_apart (text a) _ h k e = absurd k
texts_apart _ y h k e = absurd h

-- the order of unsigned numbers is that of whole numbers
pub unsigned_order : (x y : ℕ) → nat_cmp x y ≡ int_cmp (pos x) (pos y)
unsigned_order x y = by (nat_lt x y) (x == y) (nat_lt y x) refl refl refl
  where
    by : (s t u : Bool) → nat_lt x y ≡ s → (x == y) ≡ t → nat_lt y x ≡ u → cond s Less (cond t Equal Greater) ≡ cond s Less (cond u Greater Equal)
    by true t u p q r = refl
    by false true true p q r = let e = eqb-true x y q in let l = ltb-true y x r in absurd (omega arith)
    by false true false p q r = refl
    by false false true p q r = refl
    by false false false p q r = let a = ltb-false x y p in let b = ltb-false y x r in let n = eqb-false x y q in absurd (n (omega arith))
