use Rattle.std.proofs.Common.{◌≡◌, ◌<◌, ℕ, List, ◌∷◌, false, cond, ap, sym, ◌∙◌, arith}
use Rattle.std.proofs.lemmas.Bool.Decides.{nat_tests}
use Rattle.sw_json.specs.Bytes.{is_blank}
use Rattle.sw_json.specs.Grammar.{skip}
use Rattle.sw_json.proofs.class.skip_blanks.Goals as goal

isnt_blank : (b : ℕ) → 32 < b → is_blank b ≡ false
unfolding is_blank
isnt_blank b h = grind (arith, nat_tests)

none_in_front : (bytes rest : List ℕ) (b : ℕ) → bytes ≡ b ∷ rest → 32 < b → bytes ≡ skip bytes
none_in_front bytes rest b e h = e ∙ ap (λ t. cond t (skip rest) (b ∷ rest)) (sym (isnt_blank b h)) ∙ ap skip (sym e)

pub returns-then-first-gt32 : goal.returns-then-first-gt32
returns-then-first-gt32 c = none_in_front c.args.bytes.now _ c.in-Some.first.now c.in-Some.ensures.cases.0 c.if-first-gt32.true
