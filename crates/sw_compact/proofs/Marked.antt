-- What bytes are read as, by whether they begin with the mark.
use Rattle.std.proofs.Common.{◌≡◌, ℕ, List, ◌∷◌, subst, sym, ◌∙◌, ap}
use Rattle.std.specs.Prelude.{Result, Ok, Err, IfOk, IfErr, IfSome}
use Rattle.sw_tree.specs.Answered.{wire_cause}
use Rattle.sw_tree.specs.Laws.Wires.{tree_spelled, refused_spelled}
use Rattle.sw_tree.specs.declared.fail.WireError.TheVariants as wire
use Rattle.sw_tree.specs.Doc.{Document}
use Rattle.sw_tree.specs.Wires.{Grammar, Spelled, IsFound, IsGrammar, IsRefused, SpellsTree}
use Rattle.sw_tree.specs.declared.fail.WireError.{WireError}
use Rattle.sw_compact.specs.Decoding.{tree_of}
use Rattle.sw_compact.specs.Spelled.{judged, spells, spells1, spelled, spelled1}
use Rattle.sw_compact.specs.Laws.Grammar.{grammar, grammar1, spelled_one, spelled_two}
use Rattle.sw_compact.specs.declared.version.Version.TheVariants.{One, Two}

pub found_marked : (b body : List ℕ) (x : Result Document WireError) → b ≡ 194 ∷ body → IsFound x (judged Two (tree_of Two body)) → IsFound x (spelled b)
found_marked b body x e h = subst (IsFound x) (sym (ap spelled e ∙ spelled_two body)) h

pub found_unmarked : (b : List ℕ) (x : Result Document WireError) → ((body : List ℕ) → b ≡ 194 ∷ body → ⊥) → IsFound x (judged One (tree_of One b)) → IsFound x (spelled b)
found_unmarked b x n h = subst (IsFound x) (sym (spelled_one b n)) h

-- ---- what an answer says of the bytes, by a grammar

refused_by : (spells : Grammar) (spelled : Spelled) → IsGrammar spells spelled → (b : List ℕ) (e : WireError) → IfSome (wire_cause e) (λ c. spelled b ≡ Err c) → IsRefused spells b e
refused_by s r g b wire.Syntax h = refused_spelled s r g b wire.Syntax h
refused_by s r g b (wire.NotWhole at) h = refused_spelled s r g b (wire.NotWhole at) h
refused_by s r g b (wire.TooDeep at) h = refused_spelled s r g b (wire.TooDeep at) h
refused_by s r g b wire.Memory h = tt

by_tree : (spells : Grammar) (spelled : Spelled) → IsGrammar spells spelled → (b : List ℕ) (x : Result Document WireError) → IsFound x (spelled b) → IfOk x (λ d. SpellsTree spells b d.tree)
by_tree s r g b (Ok d) h = tree_spelled s r g b d.tree h
by_tree s r g b (Err e) h = tt

by_error : (spells : Grammar) (spelled : Spelled) → IsGrammar spells spelled → (b : List ℕ) (x : Result Document WireError) → IsFound x (spelled b) → IfErr x (IsRefused spells b)
by_error s r g b (Ok d) h = tt
by_error s r g b (Err e) h = refused_by s r g b e h

pub either_tree : (b : List ℕ) (x : Result Document WireError) → IsFound x (spelled b) → IfOk x (λ d. SpellsTree spells b d.tree)
either_tree b x h = by_tree spells spelled grammar b x h

pub either_error : (b : List ℕ) (x : Result Document WireError) → IsFound x (spelled b) → IfErr x (IsRefused spells b)
either_error b x h = by_error spells spelled grammar b x h

pub either_cause : (b : List ℕ) (e : WireError) → IfSome (wire_cause e) (λ c. spelled b ≡ Err c) → IsRefused spells b e
either_cause b e h = refused_by spells spelled grammar b e h

pub first_found : (b : List ℕ) (x : Result Document WireError) → IsFound x (judged One (tree_of One b)) → IsFound x (spelled1 b)
unfolding spelled1
first_found b x h = h

pub first_tree : (b : List ℕ) (x : Result Document WireError) → IsFound x (spelled1 b) → IfOk x (λ d. SpellsTree spells1 b d.tree)
first_tree b x h = by_tree spells1 spelled1 grammar1 b x h

pub first_error : (b : List ℕ) (x : Result Document WireError) → IsFound x (spelled1 b) → IfErr x (IsRefused spells1 b)
first_error b x h = by_error spells1 spelled1 grammar1 b x h
