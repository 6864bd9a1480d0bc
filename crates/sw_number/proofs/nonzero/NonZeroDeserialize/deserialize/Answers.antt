use Rattle.std.specs.Prelude.{◌≡◌, ℤ, Bool, true, false, ◌&&◌, if◌then◌else◌, Option, Some, None, IfSome, Result, Ok, Err}
use Rattle.std.specs.Option.{ok_or}
use Rattle.sw_tree.specs.Meaning.{number}
use Rattle.sw_tree.specs.Number.{key_number}
use Rattle.sw_tree.specs.Placed.{placed, placed_at}
use Rattle.sw_tree.specs.Seen.{Seen}
use Rattle.sw_tree.specs.Steps.{bind}
use Rattle.sw_tree.specs.Tree.{int_at}
use Rattle.sw_tree.specs.Answered.{read_cause}
use Rattle.sw_tree.specs.Inner.View.{seen}
use Rattle.sw_tree.specs.declared.mode.Mode.{Mode}
use Rattle.sw_tree.specs.declared.fail.DeError.{DeError}
use Rattle.sw_tree.specs.declared.fail.DeError.TheVariants as fail
use Rattle.sw_tree.specs.declared.fail.Refusal.{Refusal}
use Rattle.sw_elem.specs.Equations.{own_spot}
use Rattle.sw_elem.specs.KeyPlace.{keyed_reads}
use Rattle.sw_elem.specs.Numbers.{ranged_or_invalid, number_reads}
use Rattle.sw_number.specs.NonZero.{is_nonzero, nonzero_fits}
use Rattle.sw_number.proofs.nonzero.NonZeroDeserialize.deserialize.Goals as goal

module _ (fits : ℤ → Bool) (s : Seen) (e : Refusal) where
  number_refused : (n : ℤ) (in_range other : Bool) →
      placed_at s 0 (ok_or (if in_range then Some (number n) else None) fail.InvalidValue) ≡ Err e →
      placed_at s 0 (ok_or (if in_range && other then Some (number n) else None) fail.InvalidValue) ≡ Err e
  number_refused n true other h = absurd (cc)
  number_refused n false other h = h

  then_refused : (r : Result ℤ DeError) → placed_at s 0 (bind r (ranged_or_invalid fits)) ≡ Err e → placed_at s 0 (bind r (ranged_or_invalid (nonzero_fits fits))) ≡ Err e
  then_refused (Ok n) h = number_refused n (fits n) (is_nonzero n) h
  then_refused (Err d) h = h

-- what the number type refuses is refused for the same cause
refused : (fits : ℤ → Bool) (m : Mode) (s : Seen) (cause : Option Refusal) →
    IfSome cause (λ e. placed (number_reads fits m) (own_spot m) s ≡ Err e) → IfSome cause (λ e. placed (number_reads (nonzero_fits fits) m) (own_spot m) s ≡ Err e)
refused fits m s (Some e) h = then_refused fits s e (keyed_reads int_at key_number m s.tree) h
refused fits m s None h = h

pub returns-in-Err-clause-answer : goal.returns-in-Err-clause-answer
returns-in-Err-clause-answer g c = refused g.N.Integer.fits c.args.mode (seen c.args.view) (read_cause c.in-Err.fail) c.in-Err.ensures.answer
