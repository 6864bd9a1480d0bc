-- The laws of truth values, texts, characters and nothing, by themselves and by their texts.
use Rattle.std.specs.Prelude.{◌≡◌, Ok, Bool, Option, Some, None, option_map, true, false, ℕ, List, if◌then◌else◌, ◌&&◌, [], ◌∷◌, length, ◌==◌, Result}
use Rattle.std.specs.Option.{ok_or}
use Rattle.std.specs.Char.{encode_utf8, IsScalar}
use Rattle.std.specs.Str.{IsUtf8, all_scalars, encode_utf8_all, chars, is_utf8}
use lib.Utf8.{scalar}
use Rattle.std.proofs.Common.{subst, refl, sym, ◌∙◌, append-nil, arith, ap}
use Rattle.std.proofs.lemmas.Bool.{eqb-true}
use Rattle.std.proofs.lemmas.Str.{IsUtf8-from_is_utf8, is_utf8-from_IsUtf8, chars_from_encodes, IsUtf8-encode, chars_past_char, chars-nil}
use Rattle.sw_tree.specs.Meaning.{Meaning, truth, text, nothing}
use Rattle.sw_tree.specs.Meant.{IsTruth, IsText, IsCharText, IsNothing}
use Rattle.sw_tree.specs.Proper.{IsNodeTree}
use Rattle.sw_tree.specs.Tree.{Tree, truth_at, text_at, kind_of}
use Rattle.sw_tree.specs.Tree as node
use Rattle.sw_tree.specs.declared.mode.Mode.{Mode}
use Rattle.sw_tree.specs.declared.mode.Kind.{Kind}
use Rattle.sw_tree.specs.declared.mode.Kind.TheVariants as kind
use Rattle.sw_tree.specs.declared.fail.DeError.{DeError}
use Rattle.sw_tree.specs.declared.fail.DeError.TheVariants as fail
use Rattle.sw_tree.specs.Laws.Steps.{bind_ok}
use Rattle.sw_tree.specs.Laws.Utf8.{bool_text-utf8}
use Rattle.sw_check.specs.TextClass.{IsOfClass}
use Rattle.sw_check.specs.declared.class.TextClass.{TextClass}
use Rattle.sw_elem.specs.Equations.{LawfulReading, own_spot}
use Rattle.sw_elem.specs.KeyPlace.{keyed_reads}
use Rattle.sw_elem.specs.Classes.{truth_class, byte_class}
use Rattle.sw_elem.specs.Text.{LawfulText}
use Rattle.sw_elem.specs.Truths.{truth_named, truth_reads, truth_shows, truth_parses}
use Rattle.sw_elem.specs.Strings.{texted_reads, text_shows, text_parses, text_reads, is_character, character_parses, character_reads, nothing_of, nothing_reads}
use Rattle.sw_elem.specs.Laws.Classes.{truth_classed, text_classed, character_classed}
use Rattle.sw_elem.specs.Laws.Equations.{own_spot-inside}
use Rattle.sw_elem.specs.Laws.Takes.{read_taken}

-- ---- truth values
truth_meanings : (m : Mode) (t : Tree) (v : Meaning) → truth_reads m t ≡ Ok v → IsTruth v
truth_meanings m t v p =
    let q = bind_ok (keyed_reads truth_at truth_named m t) (λ b. Ok (truth b)) v p in
    let e : truth q.0 ≡ v = cc in
    subst IsTruth e tt

pub truth_reading_lawful : LawfulReading IsTruth truth_reads own_spot
truth_reading_lawful = record { meanings = λ m t v n p. truth_meanings m t v p; inside = λ m t e p. own_spot-inside m t }

truth_parsed : (o : Option Bool) (v : Meaning) → option_map truth o ≡ Some v → IsTruth v
truth_parsed None v p = absurd (cc)
truth_parsed (Some b) v p = let e : truth b ≡ v = cc in subst IsTruth e tt

truth_shown : (v : Meaning) → IsTruth v → truth_parses (truth_shows v) ≡ Some v
truth_shown (truth true) h = refl
truth_shown (truth false) h = refl
truth_shown _ h = absurd h

truth_is_classed : (v : Meaning) → IsTruth v → IsOfClass truth_class (truth_shows v)
truth_is_classed (truth b) h = truth_classed b
truth_is_classed _ h = absurd h

truth_utf8 : (v : Meaning) → IsTruth v → IsUtf8 (truth_shows v)
truth_utf8 (truth b) h = bool_text-utf8 b
truth_utf8 _ h = absurd h

pub truth_lawful : LawfulText IsTruth truth_shows truth_parses truth_class
truth_lawful = record { shown = truth_shown; classed = truth_is_classed; utf8 = truth_utf8; parsed = λ s v u p. truth_parsed (truth_named s) v p }

-- ---- texts, and what they stand for
parsed_ok : (o : Option Meaning) (e : DeError) (v : Meaning) → ok_or o e ≡ Ok v → o ≡ Some v
parsed_ok (Some w) e v p = cc
parsed_ok None e v p = absurd (cc)

proper_text : (t : Tree) (s : List ℕ) → IsNodeTree t → text_at t ≡ Some s → IsUtf8 s
proper_text (node.text r) s n h = let e : r ≡ s = cc in subst IsUtf8 e n.proper
proper_text _ s n h = absurd (cc)

-- what a text stands for is read of it
pub texted_lawful : {P : Meaning → Type 0} {shows : Meaning → List ℕ} {parses : List ℕ → Option Meaning} {class : TextClass} → LawfulText P shows parses class → (e : DeError) → LawfulReading P (texted_reads parses e) own_spot
texted_lawful {P} {shows} {parses} {class} law e = record {
  meanings = λ m t v n p. let q = read_taken text_at (λ s. ok_or (parses s) e) t v p in law.parsed q.0 v (proper_text t q.0 n q.1) (parsed_ok (parses q.0) e v q.2);
  inside = λ m t d p. own_spot-inside m t;
}

chosen : (P : Meaning → Type 0) (x v : Meaning) (b : Bool) → (b ≡ true → P x) → (if b then Some x else None) ≡ Some v → P v
chosen P x v true h p = let k : x ≡ v = cc in subst P k (h refl)
chosen P x v false h p = absurd (cc)

text_shown : (v : Meaning) → IsText v → text_parses (text_shows v) ≡ Some v
text_shown (text s) h = refl
text_shown _ h = absurd h

text_utf8 : (v : Meaning) → IsText v → IsUtf8 (text_shows v)
text_utf8 (text s) h = IsUtf8-from_is_utf8 s h
text_utf8 _ h = absurd h

text_parsed : (s : List ℕ) (v : Meaning) → IsUtf8 s → text_parses s ≡ Some v → IsText v
text_parsed s v u p = let e : text s ≡ v = cc in subst IsText e (is_utf8-from_IsUtf8 s u)

pub text_lawful : LawfulText IsText text_shows text_parses (byte_class false)
text_lawful = record { shown = text_shown; classed = λ v h. text_classed (text_shows v); utf8 = text_utf8; parsed = text_parsed }

pub text_reading_lawful : LawfulReading IsText text_reads own_spot
text_reading_lawful = texted_lawful text_lawful fail.InvalidValue

both : (a b : Bool) → (a && b) ≡ true → (a ≡ true) × (b ≡ true)
both true b h = (refl, h)
both false b h = absurd (cc)

one_character : (cs s : List ℕ) → all_scalars cs ≡ true → encode_utf8_all cs ≡ s → length cs ≡ 1 → IsCharText (text s)
one_character [] s h e l = absurd (omega arith)
one_character (c ∷ []) s h e l = (c, (both (scalar c) true h).0, sym e ∙ append-nil (encode_utf8 c))
one_character (c ∷ d ∷ cs) s h e l = absurd (omega arith)

pub character_is : (s : List ℕ) → is_character s ≡ true → IsCharText (text s)
character_is s h =
    let q = both (is_utf8 s) (length (chars s) == 1) h in
    let u = IsUtf8-from_is_utf8 s q.0 in
    one_character u.0 s u.1.0 u.1.1 (ap (λ (cs : List ℕ). length cs) (chars_from_encodes u.0 s u u.1.1) ∙ eqb-true (length (chars s)) 1 q.1)

pub is_character-encode : (c : ℕ) → IsScalar c → is_character (encode_utf8 c) ≡ true
is_character-encode c h =
    let one : chars (encode_utf8 c) ≡ c ∷ [] = chars_past_char (encode_utf8 c) [] c (IsUtf8-encode c h) (sym (append-nil (encode_utf8 c))) ∙ ap (λ cs. c ∷ cs) chars-nil in
    rw (is_utf8-from_IsUtf8 (encode_utf8 c) (IsUtf8-encode c h), one) refl

character_shown : (v : Meaning) → IsCharText v → character_parses (text_shows v) ≡ Some v
character_shown (text s) h = rw (h.2, is_character-encode h.0 h.1) refl
character_shown _ h = absurd h

character_is_classed : (v : Meaning) → IsCharText v → IsOfClass (byte_class true) (text_shows v)
character_is_classed (text s) h = subst (IsOfClass (byte_class true)) (sym h.2) (character_classed h.0)
character_is_classed _ h = absurd h

character_utf8 : (v : Meaning) → IsCharText v → IsUtf8 (text_shows v)
character_utf8 (text s) h = subst IsUtf8 (sym h.2) (IsUtf8-encode h.0 h.1)
character_utf8 _ h = absurd h

pub character_lawful : LawfulText IsCharText text_shows character_parses (byte_class true)
character_lawful = record { shown = character_shown; classed = character_is_classed; utf8 = character_utf8; parsed = λ s v u p. chosen IsCharText (text s) v (is_character s) (character_is s) p }

pub character_reading_lawful : LawfulReading IsCharText character_reads own_spot
character_reading_lawful = texted_lawful character_lawful fail.InvalidValue

-- ---- nothing
nothing_there : (k : Kind) (v : Meaning) → nothing_of k ≡ Some v → IsNothing v
nothing_there kind.Null v p = let e : nothing ≡ v = cc in subst IsNothing e tt
nothing_there _ v p = absurd (cc)

nothing_read : (k : Kind) (x v : Meaning) (r : Result Meaning DeError) → nothing_of k ≡ Some x → r ≡ Ok x → r ≡ Ok v → IsNothing v
nothing_read k x v r h p q = let e : x ≡ v = cc in subst IsNothing e (nothing_there k x h)

nothing_meanings : (m : Mode) (t : Tree) (v : Meaning) → nothing_reads m t ≡ Ok v → IsNothing v
nothing_meanings m t v p = let q = read_taken (λ u. nothing_of (kind_of u)) (λ x. Ok x) t v p in nothing_read (kind_of t) q.0 v (Ok q.0) q.1 refl q.2

pub nothing_lawful : LawfulReading IsNothing nothing_reads own_spot
nothing_lawful = record { meanings = λ m t v n p. nothing_meanings m t v p; inside = λ m t e p. own_spot-inside m t }
