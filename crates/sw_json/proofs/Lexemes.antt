-- What is no token is found nowhere.
use Rattle.std.specs.Prelude.{option_map, MatchOption}
use Rattle.std.proofs.Common.{◌≡◌, ℕ, true, eqb, arith, List, [], ◌∷◌, ◌++◌, Some, refl, ◌≢◌, Option, None, Bor, ap, sym, ◌∙◌}
use Rattle.std.proofs.lemmas.Bool.Decides.{nat_tests}
use Rattle.sw_json.specs.Bytes.{behind_word}
use Rattle.sw_json.specs.Quoted.{quoted}
use Rattle.sw_json.specs.Lexing.{text_token, lexeme, literal_or_number}
use Rattle.sw_json.specs.Laws.Lexemes.{word_is, IsOther}

-- ---- words
same : (c : ℕ) → eqb c c ≡ true
same c = grind (arith, nat_tests)

pub word_found : (w rest : List ℕ) → behind_word w (w ++ rest) ≡ Some rest
word_found [] rest = refl
word_found (c ∷ w) rest = rw (same c) (word_found w rest)

-- where no word stands in front, none is found there
no_word : (w bytes : List ℕ) (o : Option (List ℕ)) → behind_word w bytes ≡ o → ((rest : List ℕ) → bytes ≢ w ++ rest) → o ≡ None
no_word w bytes None e h = refl
no_word w bytes (Some rest) e h = absurd (h rest (word_is w bytes rest e))

pub word_read : (w bytes : List ℕ) (r : Option (Bor (List ℕ))) → MatchOption r ((rest : List ℕ) → bytes ≢ w ++ rest) (λ x. bytes ≡ w ++ x.now) → option_map (λ (x : Bor (List ℕ)). x.now) r ≡ behind_word w bytes
word_read w bytes None h = sym (no_word w bytes (behind_word w bytes) refl h)
word_read w bytes (Some x) h = sym (ap (behind_word w) h ∙ word_found w x.now)

pub text_read : (at : ℕ) (bytes rest : List ℕ) (b : ℕ) → bytes ≡ b ∷ rest → b ≡ 34 → lexeme at bytes ≡ text_token at (quoted rest)
unfolding lexeme
text_read at bytes rest b e h = rw (e, h) refl

pub literal_read : (at : ℕ) (bytes rest : List ℕ) (b : ℕ) → bytes ≡ b ∷ rest → IsOther b → lexeme at bytes ≡ literal_or_number at b bytes
unfolding lexeme
literal_read at bytes rest b e h = rw e (rw (h.bracket, h.closing_bracket, h.brace, h.closing_brace, h.comma, h.colon, h.quote) refl)
