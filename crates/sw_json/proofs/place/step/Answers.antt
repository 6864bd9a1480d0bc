use Rattle.std.proofs.Common.{◌≡◌, ℕ, List, refl}
use Rattle.sw_json.specs.Inner.Lexeme.{token_of}
use Rattle.sw_json.specs.Inner.Place.{place_value, place_fresh_list}
use Rattle.sw_json.specs.declared.lexer.Lexeme.{Lexeme}
use Rattle.sw_json.specs.declared.lexer.Lexeme.TheVariants.{CloseList}
use Rattle.sw_json.specs.declared.place.Open.{Open}
use Rattle.sw_json.proofs.place.step.Goals as goal

-- behind an opening bracket all but the closing one comes as a value does
fresh_default : (buffer : List ℕ) (at : ℕ) (os : List Open) (l : Lexeme) → (l ≡ CloseList → ⊥) → place_fresh_list os (token_of buffer at l) ≡ place_value os (token_of buffer at l)
fresh_default buffer at os CloseList h = absurd (h refl)
fresh_default buffer at os l h = refl

pub returns-in-Value : goal.returns-in-Value
returns-in-Value c = λ buffer at. rw c.in-Value.is (c.value_step.ensures buffer at)

pub returns-in_default : goal.returns-in_default
returns-in_default c = λ buffer at. rw (c.in-FreshList.is, fresh_default buffer at _ c.args.lexeme.now c.in_default.not-CloseList) (c.value_step-in_default.ensures buffer at)

pub returns-in-After : goal.returns-in-After
returns-in-After c = λ buffer at. rw c.in-After.is (c.after_step.ensures buffer at)
