-- Bytes that spell nothing complete no state.
use Rattle.std.specs.Prelude.{Ok, Err, option_and_then, option_map}
use Rattle.std.proofs.Common.{◌≡◌, ℕ, zero, suc, List, None, false, refl, ◌+◌, [], length, ◌∷◌, Option, Some, ap, ◌∙◌}
use Rattle.sw_tree.specs.Tree.{Tree}
use Rattle.sw_tree.specs.Wires.{SpellsTree, IsCause, IsRefused}
use Rattle.sw_tree.specs.declared.fail.WireError.{WireError}
use Rattle.sw_tree.specs.Laws.Wires as wires
use Rattle.sw_json.specs.Token.{Token}
use Rattle.sw_json.specs.Grammar.{skip}
use Rattle.sw_json.specs.Lexing.{is_empty, next_token, lex}
use Rattle.sw_json.specs.Machine.{value, State, step, run, root}
use Rattle.sw_json.specs.Spelled.{spells, spelled, completed, raw_of}
use Rattle.sw_json.specs.Laws.Completion.{grammar, lexed_more, lexed_end}

unlexed : (n end : ℕ) (bytes : List ℕ) → next_token end bytes ≡ None → is_empty (skip bytes) ≡ false → lex n end bytes ≡ None
unlexed zero end bytes h e = rw e refl
unlexed (suc n) end bytes h e = rw (e, h) refl

-- ---- the bytes and what they are read as
pub tree_spelled : (bytes : List ℕ) (t : Tree) → spelled bytes ≡ Ok t → SpellsTree spells bytes t
tree_spelled bytes t h = wires.tree_spelled spells spelled grammar bytes t h

pub err_spelled : (bytes : List ℕ) (e : WireError) → spelled bytes ≡ Err e → IsCause spells bytes e
err_spelled bytes e h = wires.cause_spelled spells spelled grammar bytes e h

pub err_found : (bytes : List ℕ) (e : WireError) → IsCause spells bytes e → spelled bytes ≡ Err e
err_found bytes e h = wires.cause_found spells spelled grammar bytes e h

pub refused_by : (bytes : List ℕ) (e : WireError) → spelled bytes ≡ Err e → IsRefused spells bytes e
refused_by bytes e h = wires.refused_spelled spells spelled grammar bytes e h

-- ---- for the reader: one token more, and the three ends
pub at_start : (bytes : List ℕ) → raw_of 0 bytes ≡ completed (length bytes) (0 + length bytes) (value []) bytes
unfolding raw_of
at_start bytes = refl

bind_map : (s : State) (t : Token) (o : Option (List Token)) (next : State) → step s t ≡ Some next → option_and_then (run s) (option_map (λ ts. t ∷ ts) o) ≡ option_and_then (run next) o
bind_map s t None next h = refl
bind_map s t (Some ts) next h = ap (option_and_then (λ n. run n ts)) h

bind_none : (s : State) (t : Token) (o : Option (List Token)) → step s t ≡ None → option_and_then (run s) (option_map (λ ts. t ∷ ts) o) ≡ None
bind_none s t None h = refl
bind_none s t (Some ts) h = ap (option_and_then (λ n. run n ts)) h

pub one_more : (n end : ℕ) (s next : State) (bytes : List ℕ) (y : Token × List ℕ) → next_token end bytes ≡ Some y → step s y.0 ≡ Some next → completed (suc n) end s bytes ≡ completed n end next y.1
one_more n end s next bytes y h e = ap (option_and_then (run s)) (lexed_more n end bytes y h) ∙ bind_map s y.0 (lex n end y.1) next e

pub refused : (n end : ℕ) (s : State) (bytes : List ℕ) (y : Token × List ℕ) → next_token end bytes ≡ Some y → step s y.0 ≡ None → completed (suc n) end s bytes ≡ None
refused n end s bytes y h e = ap (option_and_then (run s)) (lexed_more n end bytes y h) ∙ bind_none s y.0 (lex n end y.1) e

pub stuck : (n end : ℕ) (s : State) (bytes : List ℕ) → next_token end bytes ≡ None → is_empty (skip bytes) ≡ false → completed n end s bytes ≡ None
stuck n end s bytes h e = ap (option_and_then (run s)) (unlexed n end bytes h e)

pub ended : (n end : ℕ) (s : State) (bytes : List ℕ) → skip bytes ≡ [] → completed n end s bytes ≡ root s
ended n end s bytes h = ap (option_and_then (run s)) (lexed_end n end bytes h)
