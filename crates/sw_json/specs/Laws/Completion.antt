-- What bytes complete a state to, and that it is what the grammar says.
use Rattle.std.specs.Prelude.{option_map, option_and_then, Err, Ok}
use Rattle.std.proofs.Common.{◌≡◌, ℕ, List, [], ◌∷◌, true, refl, Some, false, ◌<◌, ◌-◌, length, length-append, ap, arith, zero, suc, ◌≤◌, ◌∙◌, None, Bool, subst, cond, ◌+◌, sym, Option, inl, inr}
use Rattle.sw_tree.specs.Tree.{Tree}
use Rattle.sw_tree.specs.Raw as shape
use Rattle.sw_tree.specs.Faults as fault
use Rattle.sw_tree.specs.Wires.{IsDecided, IsGrammar, SpellsTree}
use Rattle.sw_tree.specs.declared.fail.WireError.TheVariants as wire
use Rattle.sw_tree.specs.Laws.Options.{some_is, none_some, bind_some, map_some}
use Rattle.sw_tree.specs.Laws.Wires as wires
use Rattle.sw_json.specs.Token.{Token}
use Rattle.sw_json.specs.Raw.{Raw, tokens}
use Rattle.sw_json.specs.Bytes.{front, is_blank}
use Rattle.sw_json.specs.Grammar.{skip, Lexes, Spells}
use Rattle.sw_json.specs.Lexing.{is_empty, lexeme, next_token, lex}
use Rattle.sw_json.specs.Machine.{value, run}
use Rattle.sw_json.specs.Shape.{shape_of}
use Rattle.sw_json.specs.Spelled.{raw_of, spells, spelled, judged}
use Rattle.sw_json.specs.Laws.Numbers.{empty_is}
use Rattle.sw_json.specs.Laws.Fronts.{split}
use Rattle.sw_json.specs.Laws.Lexemes.{taken, front_shorter, found}
use Rattle.sw_json.specs.Laws.Structure.{reads_tree, tree_read}

is_empty-nil : (bytes : List ℕ) → bytes ≡ [] → is_empty bytes ≡ true
is_empty-nil [] h = refl
is_empty-nil (b ∷ bs) h = cc

-- ---- one token
full : (at : ℕ) (bytes : List ℕ) (y : Token × List ℕ) → lexeme at bytes ≡ Some y → is_empty bytes ≡ false
unfolding lexeme
full at [] y h = cc
full at (b ∷ bs) y h = refl

pub shorter : (end : ℕ) (bytes : List ℕ) (y : Token × List ℕ) → next_token end bytes ≡ Some y → length y.1 < length bytes
shorter end bytes y h =
    omega (arith, front_shorter (end - length (skip bytes)) (skip bytes) y.0 y.1 (taken (end - length (skip bytes)) (skip bytes) y h), ap length (split is_blank bytes), length-append (front is_blank bytes) (skip bytes))

-- ---- the lexer and the grammar
pub lexed_end : (n end : ℕ) (bytes : List ℕ) → skip bytes ≡ [] → lex n end bytes ≡ Some []
lexed_end zero end bytes h = rw (is_empty-nil (skip bytes) h) refl
lexed_end (suc n) end bytes h = rw (is_empty-nil (skip bytes) h) refl

pub lexed_more : (n end : ℕ) (bytes : List ℕ) (y : Token × List ℕ) → next_token end bytes ≡ Some y → lex (suc n) end bytes ≡ option_map (λ ts. y.0 ∷ ts) (lex n end y.1)
lexed_more n end bytes y h = rw (full (end - length (skip bytes)) (skip bytes) y h, h) refl

no_room : (end : ℕ) (bytes : List ℕ) (y : Token × List ℕ) (n : ℕ) → next_token end bytes ≡ Some y → length bytes ≤ n → n ≡ 0 → ⊥
no_room end bytes y n h k z = absurd (omega (arith, shorter end bytes y h))

lexes_lexed : (ts : List Token) (n end : ℕ) (bytes : List ℕ) → length bytes ≤ n → Lexes end bytes ts → lex n end bytes ≡ Some ts
lexes_lexed [] n end bytes k l = lexed_end n end bytes l
lexes_lexed (t ∷ ts) zero end bytes k l = absurd (no_room end bytes (t, l.0) zero (found (end - length (skip bytes)) (skip bytes) t l.0 l.1) k refl)
lexes_lexed (t ∷ ts) (suc n) end bytes k l =
    let h = found (end - length (skip bytes)) (skip bytes) t l.0 l.1 in
    let small : length l.0 ≤ n = omega (arith, shorter end bytes (t, l.0) h) in
    lexed_more n end bytes (t, l.0) h ∙ ap (option_map (λ us. t ∷ us)) (lexes_lexed ts n end l.0 small l.2)

chosen_end : (b : Bool) (bytes : List ℕ) (end : ℕ) (ts : List Token) → is_empty (skip bytes) ≡ b → cond b (Some []) None ≡ Some ts → Lexes end bytes ts
chosen_end true bytes end ts e h = subst (λ us. Lexes end bytes us) (some_is h) (empty_is (skip bytes) e)
chosen_end false bytes end ts e h = absurd (none_some h)

lexed_step : (n end : ℕ) (bytes : List ℕ) (ts : List Token) → ((rest : List ℕ) (us : List Token) → lex n end rest ≡ Some us → Lexes end rest us)
    → (b : Bool) → is_empty (skip bytes) ≡ b → cond b (Some []) (option_and_then (λ y. option_map (λ us. y.0 ∷ us) (lex n end y.1)) (next_token end bytes)) ≡ Some ts → Lexes end bytes ts
lexed_step n end bytes ts more true e k = chosen_end true bytes end ts e k
lexed_step n end bytes ts more false e k =
    let x = bind_some (λ y. option_map (λ us. y.0 ∷ us) (lex n end y.1)) (next_token end bytes) ts k in
    let z = map_some (λ us. x.0.0 ∷ us) (lex n end x.0.1) ts x.2 in
    subst (λ us. Lexes end bytes us) z.2 (x.0.1, taken (end - length (skip bytes)) (skip bytes) x.0 x.1, more x.0.1 z.0 z.1)

lexed_lexes : (n end : ℕ) (bytes : List ℕ) (ts : List Token) → lex n end bytes ≡ Some ts → Lexes end bytes ts
lexed_lexes zero end bytes ts h = chosen_end (is_empty (skip bytes)) bytes end ts refl h
lexed_lexes (suc n) end bytes ts h = lexed_step n end bytes ts (λ rest us k. lexed_lexes n end rest us k) (is_empty (skip bytes)) refl h

-- ---- the bytes and the raw tree
pub raw_found : (off : ℕ) (bytes : List ℕ) (r : Raw) → Spells off bytes r → raw_of off bytes ≡ Some r
unfolding raw_of
raw_found off bytes r h =
    let small : length bytes ≤ length bytes = omega arith in
    ap (option_and_then (run (value []))) (lexes_lexed (tokens r []) (length bytes) (off + length bytes) bytes small h) ∙ reads_tree r

pub raw_spelled : (off : ℕ) (bytes : List ℕ) (r : Raw) → raw_of off bytes ≡ Some r → Spells off bytes r
unfolding raw_of
raw_spelled off bytes r h =
    let x = bind_some (run (value [])) (lex (length bytes) (off + length bytes) bytes) r h in
    subst (λ us. Lexes (off + length bytes) bytes us) (tree_read x.0 r x.2) (lexed_lexes (length bytes) (off + length bytes) bytes x.0 x.1)

pub unique : (off : ℕ) (bytes : List ℕ) (r s : Raw) → Spells off bytes r → Spells off bytes s → r ≡ s
unique off bytes r s h k = some_is (sym (raw_found off bytes r h) ∙ raw_found off bytes s k)

-- ---- the grammar, as every wire states it
one_shape : (bytes : List ℕ) (r s : shape.Raw) → spells bytes r → spells bytes s → r ≡ s
one_shape bytes r s h k = sym h.shape_is ∙ ap shape_of (unique 0 bytes h.raw k.raw h.spelled k.spelled) ∙ k.shape_is

judged_shape : (bytes : List ℕ) (s : shape.Raw) → spells bytes s → spelled bytes ≡ fault.judged s
unfolding spelled
judged_shape bytes s h = ap judged (raw_found 0 bytes h.raw h.spelled) ∙ ap fault.judged h.shape_is

none_of : (bytes : List ℕ) (o : Option Raw) → raw_of 0 bytes ≡ o → ((s : shape.Raw) → spells bytes s → ⊥) → o ≡ None
none_of bytes None z h = refl
none_of bytes (Some r) z h = absurd (h (shape_of r) (record { raw = r; spelled = raw_spelled 0 bytes r z; shape_is = refl }))

syntax_found : (bytes : List ℕ) → ((s : shape.Raw) → spells bytes s → ⊥) → spelled bytes ≡ Err wire.Syntax
unfolding spelled
syntax_found bytes h = ap judged (none_of bytes (raw_of 0 bytes) refl h)

decided_by : (bytes : List ℕ) (o : Option Raw) → raw_of 0 bytes ≡ o → IsDecided spells bytes
decided_by bytes None e = inr (λ s k. none_some (sym e ∙ raw_found 0 bytes k.raw k.spelled))
decided_by bytes (Some r) e = inl (shape_of r, record { raw = r; spelled = raw_spelled 0 bytes r e; shape_is = refl })

decided : (bytes : List ℕ) → IsDecided spells bytes
decided bytes = decided_by bytes (raw_of 0 bytes) refl

pub grammar : IsGrammar spells spelled
grammar = record { one = one_shape; decided = decided; found = judged_shape; none = syntax_found }

pub tree_found : (bytes : List ℕ) (t : Tree) → SpellsTree spells bytes t → spelled bytes ≡ Ok t
tree_found bytes t s = wires.tree_found spells spelled grammar bytes t s
