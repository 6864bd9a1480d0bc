-- Runs of bytes that stand for themselves, printed.
use Rattle.std.proofs.Common.{◌≡◌, ℕ, suc, Bool, true, false, cond, eqb, ltb, List, [], ◌∷◌, ◌++◌, length, refl, ap, sym, ◌∙◌, arith, Some}
use Rattle.std.proofs.lemmas.Bool.Decides.{nat_tests}
use Rattle.std.proofs.lemmas.List.{append-nil}
use Rattle.sw_json.specs.Bytes.{is_plain, front, behind}
use Rattle.sw_json.specs.Inner.Plain.{ArePlain}
use Rattle.sw_json.specs.Text.{escape_of, escaped, json_text}
use Rattle.sw_tree.specs.Tree.{text}
use Rattle.sw_json.proofs.Texts.{quoted_text}

pub escape_plain : (b : ℕ) → is_plain b ≡ true → escape_of b ≡ b ∷ []
unfolding escape_of is_plain
escape_plain b h =
    let quote : eqb b 34 ≡ false = grind (arith, nat_tests) in
    let slash : eqb b 92 ≡ false = grind (arith, nat_tests) in
    let back : eqb b 8 ≡ false = grind (arith, nat_tests) in
    let form : eqb b 12 ≡ false = grind (arith, nat_tests) in
    let line : eqb b 10 ≡ false = grind (arith, nat_tests) in
    let return : eqb b 13 ≡ false = grind (arith, nat_tests) in
    let tab : eqb b 9 ≡ false = grind (arith, nat_tests) in
    let control : ltb b 32 ≡ false = grind (arith, nat_tests) in
    rw (quote, slash, back, form, line, return, tab, control) refl

-- a text that is spelled by itself
pub escaped_plain : (s : List ℕ) → ArePlain s 0 (length s) → escaped s [] ≡ s
escaped_plain [] h = refl
escaped_plain (b ∷ bs) h =
    ap (λ e. e ++ escaped bs []) (escape_plain b (h 0 (omega arith) (omega arith)))
    ∙ ap (λ r. b ∷ r) (escaped_plain bs (λ k from to. h (suc k) (omega arith) (omega arith)))

run_step : (t : Bool) (b : ℕ) (bs : List ℕ) → is_plain b ≡ t → escaped bs [] ≡ front is_plain bs ++ escaped (behind is_plain bs) []
    → escape_of b ++ escaped bs [] ≡ cond t (b ∷ front is_plain bs) [] ++ escaped (cond t (behind is_plain bs) (b ∷ bs)) []
run_step true b bs e h = ap (λ s. s ++ escaped bs []) (escape_plain b e) ∙ ap (λ r. b ∷ r) h
run_step false b bs e h = refl

-- a run, and what is behind it
pub escaped_run : (s : List ℕ) → escaped s [] ≡ front is_plain s ++ escaped (behind is_plain s) []
escaped_run [] = refl
escaped_run (b ∷ bs) = run_step (is_plain b) b bs refl (escaped_run bs)

nothing : (s : List ℕ) → length s ≡ 0 → s ≡ []
nothing [] h = refl
nothing (b ∷ bs) h = absurd (omega arith)

-- the last run
pub run_ends : (s run : List ℕ) → run ≡ front is_plain s → length (behind is_plain s) ≡ 0 → escaped s [] ≡ run
run_ends s run e h = escaped_run s ∙ ap (λ r. front is_plain s ++ escaped r []) (nothing (behind is_plain s) h) ∙ append-nil (front is_plain s) ∙ sym e

-- a run, and what is behind the byte that ends it
pub run_on : (s run : List ℕ) (b : ℕ) (after : List ℕ) → run ≡ front is_plain s → behind is_plain s ≡ b ∷ after → escaped s [] ≡ run ++ (escape_of b ++ escaped after [])
run_on s run b after e h = escaped_run s ∙ ap (λ r. front is_plain s ++ escaped r []) h ∙ ap (λ r. r ++ (escape_of b ++ escaped after [])) (sym e)

-- the text of a text that is spelled by itself
pub plain_text : (s bytes : List ℕ) → bytes ≡ s → ArePlain bytes 0 (length bytes) → Some (34 ∷ (bytes ++ 34 ∷ [])) ≡ json_text (text s)
plain_text s bytes e h = ap (λ r. Some (34 ∷ (r ++ 34 ∷ []))) (sym (escaped_plain bytes h)) ∙ sym (quoted_text bytes) ∙ ap (λ r. json_text (text r)) e
