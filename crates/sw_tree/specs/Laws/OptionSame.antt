-- Options of one meaning are equal and hash alike, as the values in them.
use Rattle.std.specs.Prelude.{Bool, Some, None}
use Rattle.std.specs.Option.{option_eq}
use Rattle.std.specs.Hash.{HashWrites}
use Rattle.std.specs.Hash as fed
use Rattle.std.proofs.Common.{refl, ap}
use Rattle.sw_tree.specs.Meaning.{Meaning, nothing, case}
use Rattle.sw_tree.specs.Meant.{option_meaning, IsOptionOf}
use Rattle.sw_tree.specs.SameMeaning.{TellsSame, HashesAlike}

abbrev value : Meaning → Meaning
value (case n v) = v
value _ = nothing

module _ {T : Type 0} (P : Meaning → Type 0) (f : T → Meaning) where
  pub options_same : (eq : T → T → Bool) → TellsSame P f eq → TellsSame (IsOptionOf P) (option_meaning f) (option_eq eq)
  options_same eq s None None h k = (λ e. refl, λ e. refl)
  options_same eq s None (Some y) h k = (λ e. absurd (cc), λ e. absurd (cc))
  options_same eq s (Some x) None h k = (λ e. absurd (cc), λ e. absurd (cc))
  options_same eq s (Some x) (Some y) h k = (λ e. ap (case 1) ((s x y h k).0 e), λ e. (s x y h k).1 (ap value e))

  pub options_alike : (F : T → HashWrites) → HashesAlike P f F → HashesAlike (IsOptionOf P) (option_meaning f) (fed.option F)
  options_alike F a None None h e = refl
  options_alike F a None (Some y) h e = absurd (cc)
  options_alike F a (Some x) None h e = absurd (cc)
  options_alike F a (Some x) (Some y) h e = ap (λ w. fed.option (λ v. w) (Some x)) (a x y h (ap value e))
