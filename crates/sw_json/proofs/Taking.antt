-- The usual tokens, each of them read and built in one step.
use Rattle.std.proofs.Common.{◌≡◌, ℕ, ◌+◌, ◌-◌, ◌<◌, List, ◌∷◌, length, Option, Some, None, ℤ, true, false, cond, refl, sym, ap, subst, ◌∙◌, arith}
use denote.Ref.{Bor}
use Rattle.std.specs.Prelude.{slice_range, is_some}
use Rattle.std.specs.Option.{option_or}
use Rattle.std.specs.Str.{IsUtf8}
use Rattle.std.proofs.lemmas.Bool.Decides.{nat_tests}
use Rattle.sw_tree.specs.Tree as tree
use Rattle.sw_tree.specs.Builder.{Built, added, longer, closed, CanClose}
use Rattle.sw_tree.specs.declared.fail.WireError.{WireError}
use Rattle.sw_tree.specs.Number.{key_number}
use Rattle.sw_tree.specs.Faults.{int_of}
use Rattle.sw_json.specs.Inner.Short.{IsShort}
use Rattle.sw_json.specs.Token.{Quote, Token}
use Rattle.sw_json.specs.Bytes.{is_plain, front, behind}
use Rattle.sw_json.specs.Quoted.{has_escape}
use Rattle.sw_json.specs.Grammar.{skip}
use Rattle.sw_json.specs.Lexing.{lexeme, next_token, text_token}
use Rattle.sw_json.specs.Inner.Building.{effect, fault_of, number_fault_of, open_fault_of, Fits, CanBuild, Builds}
use Rattle.sw_json.specs.Inner.Quick.{CanTake, Took, Rests, Takes, opening_byte, closing_byte}
use Rattle.sw_json.specs.Inner.Place.{place_step, outer, opening, closing}
use Rattle.sw_json.specs.declared.place.Place.{Place}
use Rattle.sw_json.specs.declared.place.Open.{Open}
use Rattle.sw_json.specs.declared.place.Open.TheVariants.{List as OfList, Map as OfMap}
use Rattle.sw_json.proofs.Lexemes.{text_read}
use Rattle.sw_json.proofs.ReadQuoted.{ascii_read, run_unslashed}
use Rattle.sw_json.proofs.Stands.{Stands, turn}

-- ---- what stands in front

pub comma_found : (at : ℕ) (bytes rest : List ℕ) (b : ℕ) → bytes ≡ b ∷ rest → b ≡ 44 → lexeme at bytes ≡ Some (Token.comma, rest)
unfolding lexeme
comma_found at bytes rest b e h = rw (e, h) refl

pub colon_found : (at : ℕ) (bytes rest : List ℕ) (b : ℕ) → bytes ≡ b ∷ rest → b ≡ 58 → lexeme at bytes ≡ Some (Token.colon, rest)
unfolding lexeme
colon_found at bytes rest b e h = rw (e, h) refl

-- a text that is spelled by itself
abbrev pub plain_text : ℕ → List ℕ → Token
plain_text at text = Token.text (record { at = at; spelling = text; text = text })

pub text_found : (at : ℕ) (bytes text rest : List ℕ) → text ≡ front is_plain bytes → behind is_plain bytes ≡ 34 ∷ rest → IsUtf8 text → lexeme at (34 ∷ bytes) ≡ Some (plain_text at text, rest)
text_found at bytes text rest e met u = text_read at (34 ∷ bytes) bytes 34 refl refl ∙ ap (text_token at) (sym (ascii_read bytes text rest e met u))

-- ---- what is built

or_none : (o : Option WireError) → o ≡ option_or o None
or_none None = refl
or_none (Some x) = refl

pub comma_built : (fault : Option WireError) (depth : ℕ) (b : Built) → Builds fault fault depth Token.comma b b
comma_built fault depth b = record { fault = or_none fault; built = λ e. refl }

pub colon_built : (fault : Option WireError) (depth : ℕ) (b : Built) → Builds fault fault depth Token.colon b b
colon_built fault depth b = record { fault = or_none fault; built = λ e. refl }

no_fault : (o : Option WireError) → false ≡ is_some o → o ≡ None
no_fault None h = refl
no_fault (Some x) h = cc

some_fault : (o : Option WireError) → true ≡ is_some o → o ≡ None → ⊥
some_fault None h e = cc
some_fault (Some x) h e = cc

still_faulty : (o f : Option WireError) → true ≡ is_some o → o ≡ option_or o f
still_faulty None f h = cc
still_faulty (Some x) f h = refl

-- nothing is built after a fault
text_passed : (fault : Option WireError) (depth at : ℕ) (text : List ℕ) (b : Built) → true ≡ is_some fault → Builds fault fault depth (plain_text at text) b b
text_passed fault depth at text b h = record { fault = or_none fault; built = λ e. absurd (some_fault fault h e) }

text_built : (fault : Option WireError) (depth at : ℕ) (text : List ℕ) (b c : Built) → false ≡ has_escape text → slice_range b.input (at + 1) (at + 1 + length text) ≡ text
    → c ≡ added b (tree.text (slice_range b.input (at + 1) (at + 1 + length text))) → Builds fault fault depth (plain_text at text) b c
text_built fault depth at text b c unescaped part h = record {
  fault = or_none fault;
  built = λ e. h ∙ ap (λ (s : List ℕ). added b (tree.text s)) part ∙ ap (λ t. cond t (added (longer b (length text)) (tree.text text)) (added b (tree.text text))) unescaped;
}

-- a text in front
module _ (at : ℕ) (place : Place) (opens : List Open) (bytes text rest : List ℕ) (fault : Option WireError) (b : Built) (next : Place)
    (can : CanTake at place opens (34 ∷ bytes) fault b) (run : text ≡ front is_plain bytes) (met : behind is_plain bytes ≡ 34 ∷ rest) (utf8 : IsUtf8 text)
    (leads : (os : List Open) (q : Quote) → place_step place os (Token.text q) ≡ Some (next, os)) where
  pub text_can : false ≡ is_some fault → CanBuild (length opens) (plain_text at text) b
  text_can h = can (plain_text at text) rest next opens (text_found at bytes text rest run met utf8) (leads opens (record { at = at; spelling = text; text = text })) (no_fault fault h)

  pub text_unbuilt : true ≡ is_some fault → Took at place opens opens (34 ∷ bytes) fault b b next rest
  text_unbuilt h = record {
    token = plain_text at text;
    found = text_found at bytes text rest run met utf8;
    leads = leads opens (record { at = at; spelling = text; text = text });
    builds = text_passed fault (length opens) at text b h;
  }

  pub text_took : (c : Built) → false ≡ is_some fault → c ≡ added b (tree.text (slice_range b.input (at + 1) (at + 1 + length text))) → Took at place opens opens (34 ∷ bytes) fault b c next rest
  text_took c h e = record {
    token = plain_text at text;
    found = text_found at bytes text rest run met utf8;
    leads = leads opens (record { at = at; spelling = text; text = text });
    builds = text_built fault (length opens) at text b c (run_unslashed bytes text run) (text_can h).fits.part e;
  }

-- a short number in front
module _ (at : ℕ) (place : Place) (opens : List Open) (bytes : List ℕ) (n : ℤ) (rest : List ℕ) (fault : Option WireError) (b : Built) (next : Place)
    (can : CanTake at place opens bytes fault b) (short : IsShort bytes n rest)
    (leads : (os : List Open) (at : ℕ) (s : List ℕ) → place_step place os (Token.number at s) ≡ Some (next, os)) where
  pub number_can : false ≡ is_some fault → CanBuild (length opens) (Token.number at short.spelling) b
  number_can h = can (Token.number at short.spelling) rest next opens (short.found at) (leads opens at short.spelling) (no_fault fault h)

  pub number_unbuilt : true ≡ is_some fault → Took at place opens opens bytes fault b b next rest
  number_unbuilt h = record {
    token = Token.number at short.spelling;
    found = short.found at;
    leads = leads opens at short.spelling;
    builds = record { fault = still_faulty fault (number_fault_of at (key_number short.spelling)) h; built = λ e. absurd (some_fault fault h e) };
  }

  pub number_took : (c : Built) → false ≡ is_some fault → c ≡ added b (tree.int n) → Took at place opens opens bytes fault b c next rest
  number_took c h e = record {
    token = Token.number at short.spelling;
    found = short.found at;
    leads = leads opens at short.spelling;
    builds = record {
      fault = or_none fault ∙ ap (λ (x : Option ℤ). option_or fault (number_fault_of at x)) (sym short.value);
      built = λ z. e ∙ ap (λ (x : Option ℤ). added b (tree.int (int_of x))) (sym short.value);
    };
  }

-- a bracket that opens in front
opening_found : (at : ℕ) (rest : List ℕ) (o : Open) → lexeme at (opening_byte o ∷ rest) ≡ Some (opening at o, rest)
unfolding lexeme
opening_found at rest OfList = refl
opening_found at rest OfMap = refl

shallow : (depth at : ℕ) → depth < 128 → open_fault_of depth at ≡ None
shallow depth at h = grind (arith, nat_tests)

no_level_too_many : (depth at : ℕ) (o : Open) → depth < 128 → fault_of depth (opening at o) ≡ None
no_level_too_many depth at OfList h = shallow depth at h
no_level_too_many depth at OfMap h = shallow depth at h

module _ (at : ℕ) (place : Place) (opens : List Open) (o : Open) (rest : List ℕ) (fault : Option WireError) (b : Built) (next : Place)
    (can : CanTake at place opens (opening_byte o ∷ rest) fault b) (leads : (os : List Open) (off : ℕ) → place_step place os (opening off o) ≡ Some (next, o ∷ os)) where
  pub opening_can : false ≡ is_some fault → CanBuild (length opens) (opening at o) b
  opening_can h = can (opening at o) rest next (o ∷ opens) (opening_found at rest o) (leads opens at) (no_fault fault h)

  pub opening_unbuilt : (later : List Open) → true ≡ is_some fault → later ≡ o ∷ opens → Took at place opens later (opening_byte o ∷ rest) fault b b next rest
  opening_unbuilt later h l = record {
    token = opening at o;
    found = opening_found at rest o;
    leads = leads opens at ∙ ap (λ (x : List Open). Some (next, x)) (sym l);
    builds = record { fault = still_faulty fault (fault_of (length opens) (opening at o)) h; built = λ e. absurd (some_fault fault h e) };
  }

  pub opening_took : (later : List Open) (c : Built) → length opens < 128 → later ≡ o ∷ opens → c ≡ effect (opening at o) b → Took at place opens later (opening_byte o ∷ rest) fault b c next rest
  opening_took later c few l e = record {
    token = opening at o;
    found = opening_found at rest o;
    leads = leads opens at ∙ ap (λ (x : List Open). Some (next, x)) (sym l);
    builds = record { fault = or_none fault ∙ ap (option_or fault) (sym (no_level_too_many (length opens) at o few)); built = λ z. e };
  }

-- a bracket that closes in front
closing_found : (at : ℕ) (rest : List ℕ) (o : Open) → lexeme at (closing_byte o ∷ rest) ≡ Some (closing o, rest)
unfolding lexeme
closing_found at rest OfList = refl
closing_found at rest OfMap = refl

closing_good : (depth : ℕ) (o : Open) → fault_of depth (closing o) ≡ None
closing_good depth OfList = refl
closing_good depth OfMap = refl

closing_fits : (o : Open) (b : Built) → Fits (closing o) b → CanClose b
closing_fits OfList b h = h
closing_fits OfMap b h = h

closing_effect : (o : Open) (b : Built) → closed b ≡ effect (closing o) b
closing_effect OfList b = refl
closing_effect OfMap b = refl

module _ (at : ℕ) (place : Place) (opens : List Open) (o : Open) (rest : List ℕ) (fault : Option WireError) (b : Built) (next : Place)
    (can : CanTake at place opens (closing_byte o ∷ rest) fault b) (leads : place_step place opens (closing o) ≡ Some (next, outer opens)) where
  pub closing_can : false ≡ is_some fault → CanClose b
  closing_can h = closing_fits o b (can (closing o) rest next (outer opens) (closing_found at rest o) leads (no_fault fault h)).fits

  pub closing_unbuilt : (later : List Open) → true ≡ is_some fault → later ≡ outer opens → Took at place opens later (closing_byte o ∷ rest) fault b b next rest
  closing_unbuilt later h l = record {
    token = closing o;
    found = closing_found at rest o;
    leads = leads ∙ ap (λ (x : List Open). Some (next, x)) (sym l);
    builds = record { fault = still_faulty fault (fault_of (length opens) (closing o)) h; built = λ e. absurd (some_fault fault h e) };
  }

  pub closing_took : (later : List Open) (c : Built) → later ≡ outer opens → c ≡ closed b → Took at place opens later (closing_byte o ∷ rest) fault b c next rest
  closing_took later c l e = record {
    token = closing o;
    found = closing_found at rest o;
    leads = leads ∙ ap (λ (x : List Open). Some (next, x)) (sym l);
    builds = record { fault = or_none fault ∙ ap (option_or fault) (sym (closing_good (length opens) o)); built = λ z. e ∙ closing_effect o b };
  }

-- a byte in front of the bytes
module _ (at : ℕ) (place : Place) (opens : List Open) (bytes rest : List ℕ) (b first : ℕ) (fault : Option WireError) (old : Built) (e : bytes ≡ b ∷ rest) (h : b ≡ first) where
  begins : first ∷ rest ≡ bytes
  begins = ap (λ (x : ℕ). x ∷ rest) (sym h) ∙ sym e

  pub first_can : CanTake at place opens bytes fault old → CanTake at place opens (first ∷ rest) fault old
  first_can can = λ t behind next later found. can t behind next later (ap (lexeme at) (sym begins) ∙ found)

-- ---- the turn

pub next_found : (bytes rest : List ℕ) (at : ℕ) (ahead : List ℕ) (t : Token) (behind : List ℕ) → ahead ≡ skip rest → at ≡ 0 + length bytes - length (skip rest) → lexeme at ahead ≡ Some (t, behind)
    → next_token (0 + length bytes) rest ≡ Some (t, behind)
next_found bytes rest at ahead t behind e off h = ap (λ n. lexeme n (skip rest)) (sym off) ∙ ap (lexeme at) (sym e) ∙ h

module _ (at : ℕ) (place : Place) (opens later : List Open) (ahead : List ℕ) (fault : Option WireError) (old new : Built) where
  pub still : (o : Option (Place × Bor (List ℕ))) → Takes at place opens later ahead fault old new o → o ≡ None → Rests opens later old new
  still None h e = h
  still (Some x) h e = cc

  pub took : (o : Option (Place × Bor (List ℕ))) (x : Place × Bor (List ℕ)) → Takes at place opens later ahead fault old new o → o ≡ Some x → Took at place opens later ahead fault old new x.0 x.1.now
  took None x h e = cc
  took (Some y) x h e = let same : y ≡ x = cc in subst (λ (z : Place × Bor (List ℕ)). Took at place opens later ahead fault old new z.0 z.1.now) same h

module _ (bytes : List ℕ) (place : Place) (opens : List Open) (fault : Option WireError) (b : Built) (rest : List ℕ) (was : Stands bytes place opens fault b rest) where
  pub turn_taken : (at : ℕ) (ahead : List ℕ) (later : List Open) (c : Built) (next : Place) (behind : List ℕ) → ahead ≡ skip rest → at ≡ 0 + length bytes - length (skip rest) → Took at place opens later ahead fault b c next behind
      → Stands bytes next later fault c behind
  turn_taken at ahead later c next behind e off t =
      turn bytes place opens fault b rest was t.token behind next later fault c (next_found bytes rest at ahead t.token behind e off t.found) t.leads t.builds

  pub still_stands : (at : ℕ) (ahead : List ℕ) (later : List Open) (c : Built) (o : Option (Place × Bor (List ℕ))) → Takes at place opens later ahead fault b c o → o ≡ None → Stands bytes place later fault c rest
  still_stands at ahead later c o t e =
      let r = still at place opens later ahead fault b c o t e in
      subst (λ (x : Built). Stands bytes place later fault x rest) (sym r.unbuilt) (subst (λ (x : List Open). Stands bytes place x fault b rest) (sym r.levels) was)
