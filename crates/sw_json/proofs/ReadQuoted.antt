-- From what is read of a text to what stands there.
use Rattle.std.proofs.Common.{◌≡◌, ℕ, ◌-◌, List, [], ◌∷◌, ◌++◌, length, take, Option, Some, None, Bool, true, false, cond, refl, ap, sym, ◌∙◌, Bor}
use Rattle.std.specs.Prelude.{not, option_map, option_and_then, IfSome, IfOk, Result, Ok, Err, MatchResult}
use Rattle.std.specs.Result.{is_err}
use Rattle.std.specs.List.{list_all}
use Rattle.std.specs.Str.{IsUtf8, is_utf8}
use Rattle.std.proofs.lemmas.Str.{is_utf8-from_IsUtf8, IsUtf8-from_is_utf8}
use Rattle.sw_json.specs.Bytes.{is_plain, front, behind}
use Rattle.sw_json.specs.Quoted.{IsQuoted, has_escape, content, with_spelling, quoted}
use Rattle.sw_json.specs.Inner.QuotedParts.{spelling_in, text_in, is_escaped, parts}
use Rattle.sw_json.specs.Inner.Unescaping.{unescaped}
use Rattle.sw_json.specs.declared.quoted.Quoted.{Quoted}
use Rattle.sw_json.specs.Laws.Fronts.{split, front_passes, behind_is}
use Rattle.sw_tree.specs.Laws.Options.{some_is, none_some}
use Rattle.sw_json.specs.Laws.Quoting.{spelling_taken, quoted_taken}
use Rattle.sw_json.proofs.Quoting.{unescaped_plain, plain_has_none}
use Rattle.sw_json.proofs.Unescapes.{before_none, run_more, closed_there, ended_there, stuck_there}

abbrev pub Shown : Type 0
Shown = Option (List ℕ × (List ℕ × List ℕ))

abbrev pub Read : Type 0
Read = Option (Quoted × Bor (List ℕ))

quoted_unescaped : (bytes : List ℕ) → option_and_then (with_spelling bytes) (unescaped [] bytes) ≡ quoted bytes
unfolding quoted unescaped
quoted_unescaped bytes = ap (option_and_then (with_spelling bytes)) (before_none (content (length bytes) bytes))

-- ---- UTF-8

not_utf8 : (b : Bool) (s : List ℕ) → is_utf8 s ≡ b → ¬ (IsUtf8 s) → is_utf8 s ≡ false
not_utf8 true s e u = absurd (u (IsUtf8-from_is_utf8 s e))
not_utf8 false s e u = e

-- what a check of UTF-8 says
pub utf8_is : {T E : Type 0} (P : T → Type 0) (s : List ℕ) (r : Result T E) (b : Bool) → b ≡ is_err r → MatchResult r (λ x. P x × IsUtf8 s) (λ _. ¬ (IsUtf8 s)) → is_utf8 s ≡ not b
utf8_is P s (Ok x) b e h = is_utf8-from_IsUtf8 s h.1 ∙ ap not (sym e)
utf8_is P s (Err x) b e h = not_utf8 (is_utf8 s) s refl h ∙ ap not (sym e)

pub accepted : (bytes text rest : List ℕ) (r : Option (List ℕ × List ℕ)) → Some (text, rest) ≡ r → is_utf8 text ≡ true
    → Some (take (length bytes - length rest - 1) bytes, (text, rest)) ≡ option_and_then (with_spelling bytes) r
accepted bytes text rest r e u = ap (λ b. cond b (Some (take (length bytes - length rest - 1) bytes, (text, rest))) None) (sym u) ∙ ap (option_and_then (with_spelling bytes)) e

pub refused : (bytes text rest : List ℕ) (r : Option (List ℕ × List ℕ)) → Some (text, rest) ≡ r → is_utf8 text ≡ false → ◌≡◌ {A = Shown} None (option_and_then (with_spelling bytes) r)
refused bytes text rest r e u = ap (λ b. cond b (Some (take (length bytes - length rest - 1) bytes, (text, rest))) None) (sym u) ∙ ap (option_and_then (with_spelling bytes)) e

-- ---- a text that a first run spells

pub text_read : (text run rest : List ℕ) → text ≡ run → IsUtf8 run → ◌≡◌ {A = Shown} (Some (text, (text, rest))) (cond (is_utf8 run) (Some (run, (run, rest))) None)
text_read text run rest e u = rw (e, is_utf8-from_IsUtf8 run u) refl

pub no_text : (run rest : List ℕ) → ¬ (IsUtf8 run) → ◌≡◌ {A = Shown} None (cond (is_utf8 run) (Some (run, (run, rest))) None)
no_text run rest u = rw (not_utf8 (is_utf8 run) run refl u) refl

closed_spelling : (bytes rest : List ℕ) → behind is_plain bytes ≡ 34 ∷ rest → take (length bytes - length rest - 1) bytes ≡ front is_plain bytes
closed_spelling bytes rest e =
    let whole : bytes ≡ front is_plain bytes ++ 34 ∷ rest = split is_plain bytes ∙ ap (λ k. front is_plain bytes ++ k) e in
    ap (λ b. take (length b - length rest - 1) b) whole ∙ spelling_taken (front is_plain bytes) rest

pub closed_first : (bytes run rest : List ℕ) (b : ℕ) → run ≡ front is_plain bytes → behind is_plain bytes ≡ b ∷ rest → b ≡ 34 → cond (is_utf8 run) (Some (run, (run, rest))) None ≡ quoted bytes
closed_first bytes run rest b e met q =
    ap (λ s. cond (is_utf8 s) (Some (s, (s, rest))) None) e
    ∙ ap (λ s. cond (is_utf8 (front is_plain bytes)) (Some (s, (front is_plain bytes, rest))) None) (sym (closed_spelling bytes rest (met ∙ ap (λ x. x ∷ rest) q)))
    ∙ ap (option_and_then (with_spelling bytes)) (closed_there (unescaped [] bytes) [] bytes rest b refl met q)
    ∙ quoted_unescaped bytes

pub ended_first : (bytes : List ℕ) → length (behind is_plain bytes) ≡ 0 → ◌≡◌ {A = Shown} None (quoted bytes)
ended_first bytes l = ap (option_and_then (with_spelling bytes)) (ended_there (unescaped [] bytes) [] bytes refl l) ∙ quoted_unescaped bytes

pub stuck_first : (bytes rest : List ℕ) (b : ℕ) → behind is_plain bytes ≡ b ∷ rest → (b ≡ 34 → ⊥) → (b ≡ 92 → ⊥) → ◌≡◌ {A = Shown} None (quoted bytes)
stuck_first bytes rest b met q n =
    ap (option_and_then (with_spelling bytes)) (stuck_there (unescaped [] bytes) [] bytes rest b refl met q n) ∙ quoted_unescaped bytes

pub escaped_first : (bytes run back : List ℕ) → run ≡ front is_plain bytes → back ≡ behind is_plain bytes → option_and_then (with_spelling bytes) (unescaped run back) ≡ quoted bytes
escaped_first bytes run back e f =
    ap (λ s. option_and_then (with_spelling bytes) (unescaped s back)) e
    ∙ ap (λ k. option_and_then (with_spelling bytes) (unescaped (front is_plain bytes) k)) f
    ∙ ap (option_and_then (with_spelling bytes)) (sym (run_more [] bytes))
    ∙ quoted_unescaped bytes

-- ---- what is said of a text that was read

pub is_text : (buffer bytes : List ℕ) (o : Read) → option_map (λ x. parts buffer x.0 x.1.now) o ≡ quoted bytes → IfSome o (λ x. IsUtf8 (text_in buffer x.0))
is_text buffer bytes None h = tt
is_text buffer bytes (Some x) h = (quoted_taken bytes (spelling_in x.0) (text_in buffer x.0) x.1.now (sym h)).0.is_text

slash_isnt_quote : (s t back rest : List ℕ) (b : Bool) → has_escape s ≡ b → IsQuoted s t → behind is_plain (s ++ 34 ∷ rest) ≡ 92 ∷ back → has_escape s ≡ true
unfolding is_plain
slash_isnt_quote s t back rest true e q met = e
slash_isnt_quote s t back rest false e q met = let f = sym (behind_is is_plain s (34 ∷ rest) (unescaped_plain s t q e) refl) ∙ met in cc

has_slash : (bytes s t back rest : List ℕ) → behind is_plain bytes ≡ 92 ∷ back → quoted bytes ≡ Some (s, (t, rest)) → has_escape s ≡ true
has_slash bytes s t back rest met h =
    let q = quoted_taken bytes s t rest h in
    slash_isnt_quote s t back rest (has_escape s) refl q.0 (ap (behind is_plain) (sym q.1) ∙ met)

pub is_slashed : (buffer bytes back : List ℕ) (b : ℕ) (o : Read) → behind is_plain bytes ≡ b ∷ back → b ≡ 92 → option_map (λ x. parts buffer x.0 x.1.now) o ≡ quoted bytes → IfSome o (λ x. is_escaped x.0 ≡ true)
    → IfSome o (λ x. is_escaped x.0 ≡ has_escape (spelling_in x.0))
is_slashed buffer bytes back b None met e h v = tt
is_slashed buffer bytes back b (Some x) met e h v =
    v ∙ sym (has_slash bytes (spelling_in x.0) (text_in buffer x.0) back x.1.now (met ∙ ap (λ y. y ∷ back) e) (sym h))

spelling_run : (b : Bool) (s t k run rest : List ℕ) → ◌≡◌ {A = Shown} (Some (s, (t, k))) (cond b (Some (run, (run, rest))) None) → s ≡ run
spelling_run true s t k run rest h = ap (λ w. w.0) (some_is h)
spelling_run false s t k run rest h = absurd (none_some (sym h))

-- a text that a first run spells has no backslash
pub is_unslashed : (buffer bytes run rest : List ℕ) (o : Read) → run ≡ front is_plain bytes → option_map (λ x. parts buffer x.0 x.1.now) o ≡ cond (is_utf8 run) (Some (run, (run, rest))) None → IfSome o (λ x. is_escaped x.0 ≡ false)
    → IfSome o (λ x. is_escaped x.0 ≡ has_escape (spelling_in x.0))
is_unslashed buffer bytes run rest None e h v = tt
is_unslashed buffer bytes run rest (Some x) e h v =
    v ∙ sym (plain_has_none (spelling_in x.0) (ap (list_all is_plain) (spelling_run (is_utf8 run) (spelling_in x.0) (text_in buffer x.0) x.1.now run rest h ∙ e) ∙ front_passes is_plain bytes))

-- ---- the same of an answer that may be a refusal

pub escaped_value : {E : Type 0} (buffer bytes run back : List ℕ) (r : Result Read E) → run ≡ front is_plain bytes → back ≡ behind is_plain bytes
    → IfOk r (λ o. option_map (λ x. parts buffer x.0 x.1.now) o ≡ option_and_then (with_spelling bytes) (unescaped run back)) → IfOk r (λ o. option_map (λ x. parts buffer x.0 x.1.now) o ≡ quoted bytes)
escaped_value buffer bytes run back (Ok o) e f h = h ∙ escaped_first bytes run back e f
escaped_value buffer bytes run back (Err x) e f h = tt

pub escaped_text : {E : Type 0} (buffer bytes : List ℕ) (r : Result Read E) → IfOk r (λ o. option_map (λ x. parts buffer x.0 x.1.now) o ≡ quoted bytes) → IfOk r (λ o. IfSome o (λ x. IsUtf8 (text_in buffer x.0)))
escaped_text buffer bytes (Ok o) h = is_text buffer bytes o h
escaped_text buffer bytes (Err x) h = tt

pub escaped_variant : {E : Type 0} (buffer bytes back : List ℕ) (b : ℕ) (r : Result Read E) → behind is_plain bytes ≡ b ∷ back → b ≡ 92
    → IfOk r (λ o. option_map (λ x. parts buffer x.0 x.1.now) o ≡ quoted bytes) → IfOk r (λ o. IfSome o (λ x. is_escaped x.0 ≡ true)) → IfOk r (λ o. IfSome o (λ x. is_escaped x.0 ≡ has_escape (spelling_in x.0)))
escaped_variant buffer bytes back b (Ok o) met e h v = is_slashed buffer bytes back b o met e h v
escaped_variant buffer bytes back b (Err x) met e h v = tt

-- ---- a text of ASCII alone

pub ascii_read : (bytes text rest : List ℕ) → text ≡ front is_plain bytes → behind is_plain bytes ≡ 34 ∷ rest → IsUtf8 text → ◌≡◌ {A = Shown} (Some (text, (text, rest))) (quoted bytes)
ascii_read bytes text rest e met u = text_read text text rest refl u ∙ closed_first bytes text rest 34 e met refl

pub run_unslashed : (bytes text : List ℕ) → text ≡ front is_plain bytes → false ≡ has_escape text
run_unslashed bytes text e = sym (plain_has_none text (ap (list_all is_plain) e ∙ front_passes is_plain bytes))
