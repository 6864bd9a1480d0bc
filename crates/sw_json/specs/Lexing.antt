-- The tokens of bytes, computed: each is decided at the front of what is left.
use Rattle.std.specs.Prelude.{ℕ, List, [], ◌∷◌, Bool, false, ◌||◌, ◌==◌, if◌then◌else◌, true, ◌&&◌, not, Option, Some, None, option_map, codes, ◌-◌, length, zero, suc, option_and_then}
use Rattle.std.specs.List.{list_all}
use Rattle.sw_json.specs.Token.{Token}
use Rattle.sw_json.specs.Bytes.{is_leading, is_digit, front, behind, behind_word, is_number_byte}
use Rattle.sw_json.specs.Quoted.{quoted}
use Rattle.sw_json.specs.Grammar.{skip}
pub use Rattle.sw_tree.specs.Number.{is_empty}

-- digits are zero, or the first of them isn't zero
abbrev pub is_int : List ℕ → Bool
is_int [] = false
is_int (d ∷ ds) = is_empty ds || is_leading d

abbrev pub are_digits : List ℕ → Bool
are_digits [] = false
are_digits (d ∷ ds) = list_all is_digit (d ∷ ds)

-- digits, with a sign before them or not
abbrev pub are_signed : List ℕ → Bool
are_signed [] = false
are_signed (b ∷ bs) = if (b == 43) || (b == 45) then are_digits bs else are_digits (b ∷ bs)

abbrev pub is_exponent : List ℕ → Bool
is_exponent [] = true
is_exponent (b ∷ bs) = ((b == 101) || (b == 69)) && are_signed bs

-- what follows the int of a number
abbrev pub is_tail : List ℕ → Bool
is_tail [] = true
is_tail (b ∷ bs) = if b == 46 then not (is_empty (front is_digit bs)) && is_exponent (behind is_digit bs) else is_exponent (b ∷ bs)

abbrev pub is_unsigned : List ℕ → Bool
is_unsigned s = is_int (front is_digit s) && is_tail (behind is_digit s)

abbrev pub is_number : List ℕ → Bool
is_number [] = false
is_number (b ∷ bs) = if b == 45 then is_unsigned bs else is_unsigned (b ∷ bs)

-- a number of these bytes
abbrev pub number_token : ℕ → List ℕ → List ℕ → Option (Token × List ℕ)
number_token at s rest = if is_number s then Some (Token.number at s, rest) else None

-- a text behind its opening quotation mark
abbrev pub text_token : ℕ → Option (List ℕ × (List ℕ × List ℕ)) → Option (Token × List ℕ)
text_token at r = option_map (λ x. (Token.text (record { at = at; spelling = x.0; text = x.1.0 }), x.1.1)) r

-- that token, where it is spelled by this word
abbrev pub word_token : List ℕ → Token → List ℕ → Option (Token × List ℕ)
word_token word t bytes = option_map (λ rest. (t, rest)) (behind_word word bytes)

-- a literal by its first byte, and else a number
abbrev pub literal_or_number : ℕ → ℕ → List ℕ → Option (Token × List ℕ)
literal_or_number at b bytes =
    if b == 110 then word_token (codes "null") (Token.null at) bytes
    else (if b == 116 then word_token (codes "true") (Token.truth at true) bytes
    else (if b == 102 then word_token (codes "false") (Token.truth at false) bytes
    else number_token at (front is_number_byte bytes) (behind is_number_byte bytes)))

-- the token at the front, and what is behind it
unfoldable pub lexeme : ℕ → List ℕ → Option (Token × List ℕ)
lexeme at [] = None
lexeme at (b ∷ bs) =
    if b == 91 then Some (Token.open_list at, bs)
    else (if b == 93 then Some (Token.close_list, bs)
    else (if b == 123 then Some (Token.open_map at, bs)
    else (if b == 125 then Some (Token.close_map, bs)
    else (if b == 44 then Some (Token.comma, bs)
    else (if b == 58 then Some (Token.colon, bs)
    else (if b == 34 then text_token at (quoted bs)
    else literal_or_number at b (b ∷ bs)))))))

-- the token behind the blanks in front, where the bytes end at this offset
abbrev pub next_token : ℕ → List ℕ → Option (Token × List ℕ)
next_token end bytes = lexeme (end - length (skip bytes)) (skip bytes)

-- the tokens of bytes that end at this offset, of which there are no more than that many
abbrev pub lex : ℕ → ℕ → List ℕ → Option (List Token)
lex zero end bytes = if is_empty (skip bytes) then Some [] else None
lex (suc n) end bytes =
    if is_empty (skip bytes) then Some []
    else option_and_then (λ y. option_map (λ ts. y.0 ∷ ts) (lex n end y.1)) (next_token end bytes)
