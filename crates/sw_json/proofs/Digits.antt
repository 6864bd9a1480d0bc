-- The digits of a number stand for themselves in a text.
use Rattle.std.proofs.Common.{◌≡◌, ℕ, suc, zero, ◌+◌, ◌/◌, ◌%◌, ◌<◌, ℤ, pos, negsuc, Bool, true, false, cond, eqb, ltb, leb, List, [], ◌∷◌, ◌++◌, refl, ap, sym, subst, ◌∙◌, arith, Some, Result}
use Rattle.std.proofs.lemmas.Bool.Decides.{nat_tests}
use Rattle.std.specs.Fmt.{digits, digits_onto, digit_glyph, decimal, signed_decimal}
use Rattle.sw_tree.specs.Tree.{int, text}
use Rattle.sw_json.specs.Bytes.{is_plain}
use Rattle.sw_json.specs.Text.{escaped, json_text}
use Rattle.sw_json.specs.Inner.Text.{key_text}
use Rattle.sw_json.specs.Inner.Pushed.{IsPushed, joined}
use Rattle.sw_tree.specs.declared.fail.PrintError.{PrintError}
use Rattle.sw_json.proofs.Texts.{quoted_text}
use Rattle.sw_json.proofs.Runs.{escape_plain}
use Rattle.sw_json.specs.declared.turn.Turn.{Turn}
use Rattle.sw_json.specs.declared.turn.Turn.TheVariants.{Root, First, Item, FirstKey, Key, Value}
use Rattle.sw_json.specs.Inner.Turns.{is_key, separator, piece}

-- a text that needs no escape
abbrev IsOwn : List ℕ → Type 0
IsOwn s = escaped s [] ≡ s

own_byte : (b : ℕ) (s : List ℕ) → is_plain b ≡ true → IsOwn s → IsOwn (b ∷ s)
own_byte b s h o = ap (λ e. e ++ escaped s []) (escape_plain b h) ∙ ap (λ r. b ∷ r) o

own_choice : (c : Bool) (s t : List ℕ) → IsOwn s → IsOwn t → IsOwn (cond c s t)
own_choice true s t h k = h
own_choice false s t h k = k

glyph_plain : (d : ℕ) → d < 10 → is_plain (digit_glyph false d) ≡ true
unfolding is_plain
glyph_plain d h =
    let digit : ltb d 10 ≡ true = grind (arith, nat_tests) in
    let space : leb 32 (48 + d) ≡ true = grind (arith, nat_tests) in
    let quote : eqb (48 + d) 34 ≡ false = grind (arith, nat_tests) in
    let slash : eqb (48 + d) 92 ≡ false = grind (arith, nat_tests) in
    rw (digit, space, quote, slash) refl

own_onto : (k n : ℕ) (s : List ℕ) → IsOwn s → IsOwn (digits_onto k 10 false n s)
own_onto zero n s h = h
own_onto (suc k) n s h =
    let one = own_byte (digit_glyph false (n % 10)) s (glyph_plain (n % 10) (omega arith)) h in
    own_choice (eqb (n / 10) 0) _ _ one (own_onto k (n / 10) (digit_glyph false (n % 10) ∷ s) one)

own_decimal : (n : ℕ) → IsOwn (decimal n)
unfolding digits
own_decimal n = own_onto 64 n [] refl

minus_plain : is_plain 45 ≡ true
unfolding is_plain
minus_plain = refl

own_signed : (n : ℤ) → IsOwn (signed_decimal n)
own_signed (pos n) = own_decimal n
own_signed (negsuc n) = own_byte 45 (decimal (suc n)) minus_plain (own_decimal (suc n))

-- the text of the digits, between quotes
pub digits_text : (n : ℤ) (s : List ℕ) → s ≡ signed_decimal n → Some (34 ∷ (s ++ 34 ∷ [])) ≡ json_text (text (signed_decimal n))
digits_text n s e =
    ap (λ r. Some (34 ∷ (r ++ 34 ∷ []))) (e ∙ sym (own_signed n)) ∙ sym (quoted_text (signed_decimal n))

pub digits_pushed : (x : Result (Unit {0}) PrintError) (before after s : List ℕ) (n : ℤ) → s ≡ signed_decimal n → IsPushed x before after (Some (34 ∷ s ++ 34 ∷ [])) → IsPushed x before after (key_text (int n))
digits_pushed x before after s n e h = subst (IsPushed x before after) (digits_text n s e) h

-- a text is the same as a key and elsewhere
pub same_text : (turn : Turn) (s : List ℕ) → json_text (text s) ≡ piece turn (text s)
same_text Root s = refl
same_text First s = refl
same_text Item s = refl
same_text FirstKey s = refl
same_text Key s = refl
same_text Value s = refl

same_key : (turn : Turn) (n : ℤ) → is_key turn ≡ true → json_text (text (signed_decimal n)) ≡ piece turn (int n)
same_key Root n h = cc
same_key First n h = cc
same_key Item n h = cc
same_key FirstKey n h = refl
same_key Key n h = refl
same_key Value n h = cc

-- a text between quotes that needs no escape, behind the separator
pub text_part : (turn : Turn) (s t : List ℕ) → Some (34 ∷ (s ++ 34 ∷ [])) ≡ json_text (text t) → Some (separator turn ++ 34 ∷ (s ++ 34 ∷ [])) ≡ joined (Some (separator turn)) (piece turn (text t))
text_part turn s t e = ap (joined (Some (separator turn))) (e ∙ same_text turn t)

-- the digits as a text, behind the separator
pub digits_part : (turn : Turn) (n : ℤ) → Some (separator turn ++ 34 ∷ (signed_decimal n ++ 34 ∷ [])) ≡ joined (Some (separator turn)) (piece turn (text (signed_decimal n)))
digits_part turn n = text_part turn (signed_decimal n) (signed_decimal n) (digits_text n (signed_decimal n) refl)

-- the number as a key, behind the separator
pub key_part : (turn : Turn) (n : ℤ) → is_key turn ≡ true → Some (separator turn ++ 34 ∷ (signed_decimal n ++ 34 ∷ [])) ≡ joined (Some (separator turn)) (piece turn (int n))
key_part turn n h = ap (joined (Some (separator turn))) (digits_text n (signed_decimal n) refl ∙ same_key turn n h)
