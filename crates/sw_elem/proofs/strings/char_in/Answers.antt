use Rattle.std.proofs.Common.{◌≡◌, Bool, true, false, List, ℕ, Some, None, refl, ap, rules}
use Rattle.std.specs.Char.{IsScalar, encode_utf8}
use Rattle.std.specs.Prelude.{if◌then◌else◌}
use Rattle.sw_tree.specs.Meaning.{text}
use Rattle.sw_elem.specs.Strings.{is_character, character_parses}
use Rattle.sw_elem.specs.Laws.Text.{character_is, is_character-encode}
use Rattle.sw_elem.proofs.strings.char_in.Goals as goal

one : (s : List ℕ) (c : ℕ) → IsScalar c → s ≡ encode_utf8 c → character_parses s ≡ Some (text (encode_utf8 c))
one s c h e = rw (e, is_character-encode c h) refl

false_where_not : (b : Bool) → ¬ (b ≡ true) → b ≡ false
false_where_not true h = absurd (h refl)
false_where_not false h = refl

none : (s : List ℕ) → ((c : ℕ) → IsScalar c → ¬ (s ≡ encode_utf8 c)) → character_parses s ≡ None
none s h =
    let test : is_character s ≡ false = false_where_not (is_character s) (λ t. let k = character_is s t in h k.0 k.1 k.2) in
    ap (λ b. if b then Some (text s) else None) test

pub returns-in-Ok : goal.returns-in-Ok
returns-in-Ok c = let f : IsScalar c.in-Ok.value = search rules in one c.args.text.now c.in-Ok.value f c.in-Ok.ensures.value

pub returns-in-Err : goal.returns-in-Err
returns-in-Err c = none c.args.text.now c.in-Err.ensures.value
